-- Outside bytes at an access point alone: the tests one after the other, and what an accepted packet leads to.
-- Assumes nothing.
use Rattle.std.proofs.Common.{◌≡◌, ℕ, ◌+◌, ◌-◌, ◌<◌, Bool, true, false, cond, not, ◌||◌, eqb, ltb, leb, List, [], ◌∷◌, ◌++◌, length, take, drop, sym, refl, ap, ◌∙◌, arith, lt-ltb, ne_eqb}
use Rattle.lists.specs.Table.{first_of, accepts}
use Rattle.lists.proofs.Choices.{and_left, and_right, and_true}
use Rattle.answers.specs.declared.Refusal.{Refusal}
use Rattle.answers.specs.Numbers.{refusal_number}
use Rattle.answers.proofs.Numbers.{refusal_above}
use Rattle.reader.specs.Read.{Reading, refused_by, read_of, context_of}
use Rattle.reader.proofs.Steps.{part_is}
use Rattle.machine.specs.Packets.{packet_of}
use Rattle.machine.specs.AccessPoint.{Action, receive}
use Rattle.machine.specs.Valid.{valid_setup}
use Rattle.machine.specs.Lone.{valid_lone, action_on, written_all, outside_tests, with_point, outside}
use Rattle.structs.specs.declared.LoneAccessPoint.{LoneAccessPoint}
use Rattle.record.specs.Lens.{get_point, put_point, get_lone, put_lone}
use Rattle.record.specs.Valid.{valid_record, valid_lone_record, Usable}
use Rattle.record.proofs.LensLaws.{Fits, point_kept}
use Rattle.record.proofs.ValidLaws.{valid_says}
use Rattle.access_point.specs.Outside.{with_record, refused_with, taken_of, outside_done, answer_done}

-- what the test of the record says
record_valid : (l : LoneAccessPoint) → valid_lone_record l ≡ true → valid_record l.ap_count l.point ≡ true
unfolding valid_lone_record
record_valid l e =
    and_right (ltb l.number l.ap_count) _ (and_right (valid_setup l.ap_count l.timeout l.resend_limit) _ e)

pub usable : (l : LoneAccessPoint) → valid_lone_record l ≡ true → Usable l.point
usable l e = valid_says l.ap_count l.point (record_valid l e)

-- the machine's test of what is used passes too
machine_valid : (l : LoneAccessPoint) → valid_lone_record l ≡ true → valid_lone (get_lone l) ≡ true
unfolding valid_lone_record valid_record valid_lone get_lone
machine_valid l e =
    let a = and_left (valid_setup l.ap_count l.timeout l.resend_limit) _ e in
    let p = and_right (valid_setup l.ap_count l.timeout l.resend_limit) _ e in
    let b = and_left (ltb l.number l.ap_count) _ p in
    let q = and_right (ltb l.number l.ap_count) _ p in
    let v = and_right (leb l.point.moves.count 8) _ (and_right (leb l.point.associations.count 16) _ q) in
    and_true _ _ a (and_true _ _ b v)

-- the record put back as it was got
lone_kept : (l : LoneAccessPoint) → Fits l.point → put_lone l (get_lone l) ≡ l
unfolding put_lone get_lone
lone_kept l z = ap (λ a. with_record a l) (point_kept l.point z)

-- the first test

pub invalid : (l : LoneAccessPoint) (from : ℕ) (s b : List ℕ) → valid_lone_record l ≡ false → refused_with 14 l b ≡ outside_done l from s b
unfolding outside_done
invalid l from s b e = rw e

-- the others, of a valid record

module _ (l : LoneAccessPoint) (v : valid_lone_record l ≡ true) (z : Fits l.point) (from : ℕ) (s b : List ℕ) where
  -- the machine refuses with n
  refused_by_lem : (n : ℕ) → first_of (outside_tests (get_lone l) from s b) ≡ n → (n ≡ 0 → ⊥) → refused_with n l b ≡ outside_done l from s b
  unfolding outside_done outside
  refused_by_lem n e h = rw (v, e, ne_eqb n 0 h) (ap (λ (x : LoneAccessPoint). refused_with n x b) (sym (lone_kept l z)))

  pub stranger : not (ltb from l.ap_count) || eqb from l.number ≡ true → refused_with 11 l b ≡ outside_done l from s b
  unfolding outside_tests get_lone
  stranger h = refused_by_lem 11 tests (λ e. omega arith)
    where
      tests : first_of (outside_tests (get_lone l) from s b) ≡ 11
      tests = rw (machine_valid l v, h)

  -- the sender is another AP of the floor

  module _ (h : from < l.ap_count) (n : from ≡ l.number → ⊥) where
    pub on_floor : not (ltb from l.ap_count) || eqb from l.number ≡ false
    on_floor = rw (lt-ltb from l.ap_count h, ne_eqb from l.number n)

    pub unreadable : (e : Refusal) → refused_by (refusal_number e) ≡ read_of s → refused_with (refusal_number e) l b ≡ outside_done l from s b
    unfolding outside_tests get_lone
    unreadable e k =
        refused_by_lem (refusal_number e)
        (rw (machine_valid l v, on_floor, ← (ap (λ (r : Reading). r.answer) k), ne_eqb (refusal_number e) 0 (above e))) (above e)
      where
        above : (e : Refusal) → refusal_number e ≡ 0 → ⊥
        above e z = omega (arith, refusal_above e)

  -- what the machine's access point does with the packet, and the octets that it sends
  abbrev action : Action
  action = receive from (packet_of (read_of s) (context_of s)) (get_point l.point)

  abbrev sent : List ℕ
  sent = written_all action.sends

  by_room : (t : Bool)
      → cond t (refused_with 10 l b) (record { answer = 0; lone = with_record (put_point l.point action.point) l; len = length sent; buffer = sent ++ drop (length sent) b })
      ≡ taken_of l
      (cond (accepts (cond t 10 0)) (record { answer = 0; lone = with_point action.point (get_lone l); len = length sent; buffer = sent ++ drop (length sent) b })
      (record { answer = cond t 10 0; lone = get_lone l; len = 0; buffer = b }))
  unfolding put_lone with_point get_lone
  by_room true = ap (λ (x : LoneAccessPoint). refused_with 10 x b) (sym (lone_kept l z))
  by_room false = refl

  -- the fourth test decides where the first three do not
  last_test : (x y t : Bool) (n : ℕ) → x ≡ false → y ≡ false → n ≡ 0 → first_of ((x, 14) ∷ (y, 11) ∷ (not (accepts n), n) ∷ (t, 10) ∷ []) ≡ cond t 10 0
  last_test x y t n e f g = rw (e, f, g)

  room_decides : not (ltb from l.ap_count) || eqb from l.number ≡ false → (read_of s).answer ≡ 0
      → first_of (outside_tests (get_lone l) from s b) ≡ cond (ltb (length b) (length sent)) 10 0
  unfolding outside_tests action_on get_lone
  room_decides h e = last_test (not (valid_lone (get_lone l))) _ (ltb (length b) (length sent)) (read_of s).answer (ap not (machine_valid l v)) h e

  taken_whole : not (ltb from l.ap_count) || eqb from l.number ≡ false → (read_of s).answer ≡ 0 → answer_done l from (packet_of (read_of s) (context_of s)) b ≡ outside_done l from s b
  unfolding outside_done outside answer_done action_on get_lone
  taken_whole h e = rw (v, room_decides h e) (by_room (ltb (length b) (length sent)))

  -- the packet that the reader accepts as r, with the part of it that is its context
  pub readable : from < l.ap_count → (from ≡ l.number → ⊥) → (r : Reading) → r ≡ read_of s → r.answer ≡ 0
      → answer_done l from (packet_of r (take (r.start + r.len - r.start) (drop r.start s))) b ≡ outside_done l from s b
  readable h n r e z =
      rw (part_is s r e)
      (ap (λ (x : Reading). answer_done l from (packet_of x (context_of s)) b) e
      ∙ taken_whole (on_floor h n) (ap (λ (x : Reading). x.answer) (sym e) ∙ z))
