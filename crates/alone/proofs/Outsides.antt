-- Outside bytes: what the AP alone answered, with the receiver of its answer, is what the definition says.
-- Assumes nothing.
use Prim.Native.Nat.{ℕ, ◌<◌}
use mathlib.Core.Path.{◌≡◌, refl, ap}
use mathlib.Core.Bool.{Bool, true, false, cond, ◌||◌, not}
use mathlib.Core.List.{List, [], ◌∷◌, ◌++◌}
use native.Mathlib.Omega.{arith}
use borrow.Author.Tests.{lt-ltb, ltb-true}
use lib.Dec.{ltb, eqb}
use lib.ListN.{length, drop, replicate, length-append}
use Rattle.lists.specs.Table.{first_of, accepts}
use Rattle.lists.proofs.Bools.{by_cond}
use Rattle.lists.proofs.Choices.{by_bool}
use Rattle.reader.specs.Read.{read_of, context_of}
use Rattle.writer.specs.Write.{octets_of}
use Rattle.machine.specs.Associations.{padded}
use Rattle.machine.specs.Packets.{Packet, written, packet_of}
use Rattle.machine.specs.Moves.{nothing, answering}
use Rattle.machine.specs.AccessPoint as machine
use Rattle.machine.specs.AccessPoint.{quietly, answer_to, answering_with, receive}
use Rattle.machine.specs.Lone.{LoneAnswer, valid_lone, action_on, written_all, outside_tests, with_point, outside}
use Rattle.machine.proofs.Parts.{by_receipt}
use Rattle.structs.specs.declared.LoneAccessPoint.{LoneAccessPoint}
use Rattle.record.specs.Lens.{get_point, get_lone, put_lone}
use Rattle.record.specs.Valid.{valid_lone_record}
use Rattle.record.proofs.LensLaws.{Fits, point_kept}
use Rattle.access_point.specs.Outside.{Taken, with_record, taken_of, outside_done}
use Rattle.alone.specs.declared.Reply.{Reply}
use Rattle.alone.specs.Told.{Told, told_of, reply_with, answered, reply_to, front_of, done_alone, acts_unless, outside_alone}
use Rattle.alone.proofs.Within.{machine_valid}

-- the reply where n octets were written or not, to the AP `from`
abbrev pub reply_for : ℕ → ℕ → ℕ → Reply
reply_for from answer n =
    cond (ltb 0 n) (record { answer = answer; sent = 1; given_up = 0; held = 0; to = from ∷ replicate 7 0; len = n }) (reply_with answer)

-- as the code tells what was taken
abbrev pub tell_taken : ℕ → Taken → Told
tell_taken from x = told_of (record { lone = x.lone; reply = reply_for from x.answer x.len }) x.buffer

-- What the machine's access point sends is one packet at most, to the sender; and a packet has octets

some_octets : (p : Packet) → 0 < length (written p)
unfolding written octets_of
some_octets p = omega arith

reply_is : (from : ℕ) (p : Packet) (a : machine.AccessPoint) → reply_for from 0 (length (written_all (receive from p a).sends)) ≡ reply_to (receive from p a)
unfolding receive quietly answering_with answer_to nothing answering reply_to written_all padded
reply_is from p a =
    by_receipt (λ (x : machine.Action). reply_for from 0 (length (written_all x.sends)) ≡ reply_to x) a from p
    (λ b e. refl)
    (λ x b e. rw (lt-ltb 0 _ (more (answer_to from p x).packet)))
    (λ m rs e. refl)
    p.message
  where
    more : (q : Packet) → 0 < length (written q ++ [])
    more q = omega (arith, some_octets q, length-append (written q) [])

-- the record put back as it was got
lone_kept : (l : LoneAccessPoint) → Fits l.point → put_lone l (get_lone l) ≡ l
unfolding put_lone get_lone
lone_kept l z = ap (λ a. with_record a l) (point_kept l.point z)

module _ (l : LoneAccessPoint) (from : ℕ) (s b : List ℕ) where
  abbrev action : machine.Action
  action = receive from (packet_of (read_of s) (context_of s)) (get_point l.point)

  abbrev sent : List ℕ
  sent = written_all action.sends

  -- the tests after 14
  abbrev rest : ℕ
  rest =
      first_of
      ((not (ltb from l.ap_count) || eqb from l.number, 11)
      ∷ (not (accepts (read_of s).answer), (read_of s).answer)
      ∷ (ltb (length b) (length sent), 10)
      ∷ [])

  by_tests : Fits l.point → (m : ℕ) (q : Bool)
      → tell_taken from (taken_of l (cond q (record { answer = 0; lone = with_point action.point (get_lone l); len = length sent; buffer = sent ++ drop (length sent) b }) (record { answer = m; lone = get_lone l; len = 0; buffer = b })))
      ≡ cond q (done_alone action l b) (told_of (answered m l) b)
  unfolding put_lone with_point get_lone done_alone
  by_tests z m true = ap (λ (r : Reply). told_of (record { lone = (done_alone action l b).outcome.lone; reply = r }) (front_of sent b)) (reply_is from (packet_of (read_of s) (context_of s)) (get_point l.point))
  by_tests z m false = ap (λ (x : LoneAccessPoint). told_of (answered m x) b) (lone_kept l z)

  valid_told : valid_lone_record l ≡ true → Fits l.point → tell_taken from (outside_done l from s b) ≡ outside_alone l from s b
  unfolding outside_done outside_alone acts_unless outside outside_tests action_on get_lone
  valid_told v z = rw (v, machine_valid l v) (by_tests z rest (accepts rest))

  invalid_told : valid_lone_record l ≡ false → tell_taken from (outside_done l from s b) ≡ outside_alone l from s b
  unfolding outside_done outside_alone acts_unless
  invalid_told v = rw v

  pub outside_told : (valid_lone_record l ≡ true → Fits l.point) → tell_taken from (outside_done l from s b) ≡ outside_alone l from s b
  outside_told z =
      by_bool (λ (v : Bool). valid_lone_record l ≡ v → tell_taken from (outside_done l from s b) ≡ outside_alone l from s b) (valid_lone_record l)
      (λ e v. valid_told v (z v))
      (λ e v. invalid_told v)
      refl

  -- an answer is written only to an AP of the floor

  none_written : ltb from l.ap_count ≡ false → (outside (get_lone l) from s b).len ≡ 0
  unfolding outside outside_tests get_lone
  none_written f = rw f (go _ _ refl (valid_lone (get_lone l)))
    where
      go : (x y : LoneAnswer) → y.len ≡ 0 → (v : Bool) → (cond {A = LoneAnswer} (accepts (cond (not v) 14 11)) x y).len ≡ 0
      go x y e true = e
      go x y e false = e

  off_floor_lem : ltb from l.ap_count ≡ false → (outside_done l from s b).len ≡ 0
  unfolding outside_done
  off_floor_lem f = by_cond (λ (x : Taken). x.len ≡ 0) (valid_lone_record l) (λ e. none_written f) (λ e. refl)

  pub sender_within : 0 < (outside_done l from s b).len → from < l.ap_count
  sender_within h =
      by_bool (λ (x : Bool). ltb from l.ap_count ≡ x → from < l.ap_count) (ltb from l.ap_count)
      (λ e f. ltb-true from l.ap_count f)
      (λ e f. absurd (omega (arith, h, off_floor_lem f)))
      refl
