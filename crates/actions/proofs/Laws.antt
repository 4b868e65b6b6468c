-- What an access point does at an event: a refusal by the first test that passes, and what is done where none passes.
-- Assumes nothing.
use Prim.Native.Nat.{ℕ, ◌-◌, ◌%◌, ◌<◌, ◌≤◌}
use mathlib.Core.Path.{◌≡◌, refl, sym, ap, ◌∙◌}
use mathlib.Core.Bool.{Bool, true, false, cond}
use mathlib.Core.List.{List, [], ◌∷◌, map}
use Rattle.std.specs.Prelude.{Option, None, Some}
use native.Mathlib.Omega.{arith}
use borrow.Author.Tests.{lt-ltb, le-ltb, ne_eqb}
use lib.Dec.{ltb, eqb}
use lib.ListN.{length, get_or}
use Rattle.lists.specs.Table.{Test, first_of, accepts}
use Rattle.lists.specs.Places.{every}
use Rattle.lists.proofs.Choices.{and_left, and_right, and_true}
use Rattle.lists.proofs.Fronts.{exact_ind}
use Rattle.reader.specs.Read.{Reading, read_of, context_of}
use Rattle.structs.specs.declared.InFlight.{InFlight}
use Rattle.structs.specs.declared.Move.{Move}
use Rattle.machine.specs.Stations.{Station, is_group}
use Rattle.machine.specs.Packets.{stale_move, Packet, Outgoing, packet_of, octets_in, carried}
use Rattle.machine.specs.Moves.{Open, nothing, opening, answering, waits, again, lapses, timed, fate, resent_by, resends, notices_of}
use Rattle.machine.specs.AccessPoint as machine
use Rattle.machine.specs.AccessPoint.{quietly, another, this, nowhere, origin_of, join_tests, join_from, leave_by, tick_by, answer_to, answering_with, receive}
use Rattle.machine.specs.Events.{group_address}
use Rattle.machine.proofs.Parts.{by_receipt}
use Rattle.structs.specs.declared.AccessPoint.{AccessPoint}
use Rattle.record.specs.Lens.{named, bare, get_point, put_point}
use Rattle.structs.specs.Lists.{no_moves, get_moves}
use Rattle.joining.specs.declared.Notice.TheVariants.{Silent}
use Rattle.joining.specs.Join as joining
use Rattle.joining.specs.Join.{sends_by, notice_from, join_done}
use Rattle.joining.proofs.Laws.{notice_sends}
use Rattle.receiving.specs.declared.Reply.{Reply}
use Rattle.receiving.specs.Receive.{Result, message_in, replies_of, handled_by}
use Rattle.access_point.specs.declared.Ticking.{Ticking}
use Rattle.access_point.specs.Tick.{tick_done}
use Rattle.access_point.proofs.Ticks.{due_sends}
use Rattle.in_flight.specs.Post.{outbox_of}
use Rattle.sending.specs.Sends.{sequence_within}
use Rattle.actions.specs.Done.{Done, unchanged_by, done_by, decided, off_floor, no_packet, tests_of_join, join_of, leave_of, tick_of, receive_of, lose_of}
use Rattle.structs.specs.declared.Outbox.{Outbox}
use Rattle.slots.proofs.Over.{take_over}
use Rattle.structs.specs.Blanks.{no_move}

-- the tests decide

module _ (ts : List Test) (b : ℕ) (a : AccessPoint) (x : machine.Action) where
  pub refused_by_lem : (n : ℕ) → first_of ts ≡ n → (n ≡ 0 → ⊥) → unchanged_by n a ≡ decided ts b a x
  unfolding decided
  refused_by_lem n e h = rw (e, ne_eqb n 0 h)

  pub accepted_by : first_of ts ≡ 0 → done_by b a x ≡ decided ts b a x
  unfolding decided
  accepted_by e = rw e

-- the first octet of a station, which has six
pub first_octet : (s : Station) (d : ℕ) → length s ≡ 6 → eqb (get_or s 0 d % 2) 1 ≡ is_group s
unfolding is_group
first_octet s d h = exact_ind 6 (λ (s : List ℕ). eqb (get_or s 0 d % 2) 1 ≡ is_group s) (λ a b c d e f. refl) s h

-- join

-- a join gives up no move
none_given_up : (o : machine.Origin) (k t r b : ℕ) (s : Station) (n : ℕ) (c : List ℕ) (p : machine.AccessPoint)
    → 0 ≡ length (join_from o k t r 0 b s n c p).happened.given_up
unfolding join_from opening nothing quietly
none_given_up (another old) k t r b s n c p = refl
none_given_up this k t r b s n c p = refl
none_given_up nowhere k t r b s n c p = refl

module _ (b k t r : ℕ) (s : Station) (n : ℕ) (old : Option ℕ) (c : List ℕ) (a : AccessPoint) where
  pub join_off : k ≤ b → unchanged_by 11 a ≡ join_of b k t r s n old c a
  unfolding join_of
  join_off h = refused_by_lem (tests_of_join b k s n old c a) b a _ 11 (rw (le-ltb b k h)) (λ e. omega arith)

  pub join_group : b < k → is_group s ≡ true → unchanged_by 13 a ≡ join_of b k t r s n old c a
  unfolding join_of group_address
  join_group h g = refused_by_lem (tests_of_join b k s n old c a) b a _ 13 (rw (lt-ltb b k h, g)) (λ e. omega arith)

  pub join_sequence : b < k → is_group s ≡ false → 4095 < n → unchanged_by 7 a ≡ join_of b k t r s n old c a
  unfolding join_of group_address
  join_sequence h g l = refused_by_lem (tests_of_join b k s n old c a) b a _ 7 (rw (lt-ltb b k h, g, lt-ltb 4095 n l)) (λ e. omega arith)

  pub join_context : b < k → is_group s ≡ false → n ≤ 4095 → 64 < length c → unchanged_by 9 a ≡ join_of b k t r s n old c a
  unfolding join_of group_address
  join_context h g l m =
      refused_by_lem (tests_of_join b k s n old c a) b a _ 9 (rw (lt-ltb b k h, g, le-ltb 4095 n l, lt-ltb 64 (length c) m)) (λ e. omega arith)

  -- the answer, the record and what the notice sends
  abbrev pub joined_as : joining.Done → Done
  joined_as x = record { answer = x.answer; point = x.point; sent = outbox_of (map (carried b) (sends_by b k s n x.notice)); given_up = 0 }

  -- accepted: what the notice of a join sends is what the machine's join sends
  join_as : (o : machine.Origin)
      → joined_as (record { answer = 0; point = put_point a (join_from o k t r 0 b s n c (get_point a)).point; notice = notice_from o a.next_identifier })
      ≡ done_by b a (join_from o k t r 0 b s n c (get_point a))
  unfolding done_by
  join_as o =
      let e = notice_sends o k t r b s n c a in
      let g = none_given_up o k t r b s n c (get_point a) in
      λ i. record { answer = 0; point = put_point a (join_from o k t r 0 b s n c (get_point a)).point; sent = outbox_of (map (carried b) (e i)); given_up = g i }

  -- the AP's own tests decide
  own_tests : (o : machine.Origin) → joined_as (join_done o k t r b s n c a) ≡ decided (join_tests o s n (get_point a)) b a (join_from o k t r 0 b s n c (get_point a))
  unfolding join_done decided
  own_tests o = go (first_of (join_tests o s n (get_point a))) (accepts (first_of (join_tests o s n (get_point a))))
    where
      go : (m : ℕ) (d : Bool)
          → joined_as (cond d (record { answer = 0; point = put_point a (join_from o k t r 0 b s n c (get_point a)).point; notice = notice_from o a.next_identifier }) (record { answer = m; point = a; notice = Silent }))
          ≡ cond d (done_by b a (join_from o k t r 0 b s n c (get_point a))) (unchanged_by m a)
      go m true = join_as o
      go m false = refl

  pub join_done_lem : b < k → is_group s ≡ false → n ≤ 4095 → length c ≤ 64 → (x : joining.Done) → x ≡ join_done (origin_of k b old) k t r b s n c a → joined_as x ≡ join_of b k t r s n old c a
  unfolding join_of group_address decided
  join_done_lem h g l m x e = ap joined_as e ∙ own_tests (origin_of k b old) ∙ rw (lt-ltb b k h, g, le-ltb 4095 n l, le-ltb 64 (length c) m)

-- leave

module _ (b k : ℕ) (s : Station) (a : AccessPoint) where
  pub leave_off : k ≤ b → unchanged_by 11 a ≡ leave_of b k s a
  unfolding leave_of
  leave_off h = refused_by_lem _ b a _ 11 (rw (le-ltb b k h)) (λ e. omega arith)

  pub leave_group : b < k → is_group s ≡ true → unchanged_by 13 a ≡ leave_of b k s a
  unfolding leave_of group_address
  leave_group h g = refused_by_lem _ b a _ 13 (rw (lt-ltb b k h, g)) (λ e. omega arith)

  pub leave_done : b < k → is_group s ≡ false → (p : AccessPoint) → p ≡ put_point a (leave_by s (get_point a)).point → unchanged_by 0 p ≡ leave_of b k s a
  unfolding leave_of group_address done_by leave_by quietly nothing
  leave_done h g p e = ap (unchanged_by 0) e ∙ accepted_by (off_floor k b ∷ group_address s ∷ []) b a (leave_by s (get_point a)) (rw (lt-ltb b k h, g))

-- tick

-- a move that is sent again keeps its sequence number
resends_within : (t : ℕ) (ms : List Move) → every sequence_within ms ≡ true → every sequence_within (map bare (resends t (map named ms))) ≡ true
unfolding every resends fate resent_by timed named bare sequence_within
resends_within t [] e = refl
resends_within t (m ∷ ms) e =
    go (ltb 1 m.ticks_left) (ltb 0 m.resends_left) _ (and_left _ _ e) (resends_within t ms (and_right (sequence_within m) _ e))
  where
    go : (x y : Bool) (l : List Open) → sequence_within m ≡ true → every sequence_within (map bare l) ≡ true
        → every sequence_within (map bare (resent_by (cond x (waits (timed (named m) (m.ticks_left - 1) m.resends_left)) (cond y (again (timed (named m) t (m.resends_left - 1))) lapses)) l)) ≡ true
    go true y l h k = k
    go false true l h k = and_true _ _ h k
    go false false l h k = k

-- the notices of the moves that are due can be written
pub due_within : (t : ℕ) (a : AccessPoint) → every sequence_within (get_moves a.moves) ≡ true → every sequence_within (get_moves (tick_done t a).due) ≡ true
unfolding tick_done
due_within t a h = ap (every sequence_within) (take_over no_move 0 _ no_moves.items) ∙ resends_within t (get_moves a.moves) h

module _ (b k t : ℕ) (a : AccessPoint) where
  pub tick_off : k ≤ b → unchanged_by 11 a ≡ tick_of b k t a
  unfolding tick_of
  tick_off h = refused_by_lem _ b a _ 11 (rw (le-ltb b k h)) (λ e. omega arith)

  -- the record, the notices of the moves that are due, and how many were given up
  abbrev pub ticked_by : Ticking → Done
  ticked_by x = record { answer = 0; point = x.point; sent = outbox_of (map (carried b) (notices_of (map named (get_moves x.due)))); given_up = x.given_up }

  pub tick_done_lem : b < k → (x : Ticking) → x ≡ tick_done t a → ticked_by x ≡ tick_of b k t a
  unfolding tick_of done_by tick_done
  tick_done_lem h x e =
      ap ticked_by e
      ∙ ap (λ (l : List Outgoing). record { answer = 0; point = put_point a (tick_by t (get_point a)).point; sent = outbox_of (map (carried b) l); given_up = length (tick_by t (get_point a)).happened.given_up }) (due_sends t a)
      ∙ accepted_by (off_floor k b ∷ []) b a (tick_by t (get_point a)) (rw (lt-ltb b k h))

-- receive

-- a packet received gives up no move
none_lapses : (from : ℕ) (p : Packet) (a : machine.AccessPoint) → 0 ≡ length (receive from p a).happened.given_up
unfolding receive quietly answering_with nothing answering
none_lapses from p a =
    by_receipt (λ (x : machine.Action). 0 ≡ length x.happened.given_up) a from p (λ b e. refl) (λ x b e. refl) (λ m rs e. refl) p.message

pub receive_none : (i m : ℕ) (p : InFlight) (a : AccessPoint) → m ≤ i → unchanged_by 12 a ≡ receive_of i m p a
unfolding receive_of
receive_none i m p a h = refused_by_lem _ p.to a _ 12 (rw (le-ltb i m h)) (λ e. omega arith)

-- packet p, read as r with the context c: the record g and the answer o are what the machine's access point does

module _ (i m : ℕ) (p : InFlight) (a : AccessPoint) (l : i < m) (r : Reading) (c : List ℕ)
    (er : r ≡ read_of (octets_in p)) (ec : c ≡ context_of (octets_in p)) (g : AccessPoint) (o : Option Reply)
    (h : record { point = g; sends = replies_of p.from (packet_of r c) o } ≡ handled_by p.from (packet_of r c) a) where
  abbrev action : machine.Action
  action = receive p.from (packet_of r c) (get_point a)

  -- with the answer, or with nothing sent
  abbrev handled_with : Option Reply → Done
  handled_with o = record { answer = 0; point = g; sent = outbox_of (map (carried p.to) (replies_of p.from (packet_of r c) o)); given_up = 0 }

  handled : handled_with o ≡ receive_of i m p a
  unfolding receive_of done_by handled_by
  handled =
      ap (λ (x : Result). record { answer = 0; point = x.point; sent = outbox_of (map (carried p.to) x.sends); given_up = 0 }) h
      ∙ ap (λ (n : ℕ). record { answer = 0; point = put_point a action.point; sent = outbox_of (map (carried p.to) action.sends); given_up = n }) (none_lapses p.from (packet_of r c) (get_point a))
      ∙ accepted_by (no_packet m i ∷ []) p.to a action (rw (lt-ltb i m l))
      ∙ (λ k. decided (no_packet m i ∷ []) p.to a (receive p.from (packet_of (er k) (ec k)) (get_point a)))

  pub receive_silent : o ≡ None → (s : Outbox) → s ≡ outbox_of [] → record { answer = 0; point = g; sent = s; given_up = 0 } ≡ receive_of i m p a
  receive_silent e s f = ap (λ (s : Outbox). record { answer = 0; point = g; sent = s; given_up = 0 }) f ∙ sym (ap handled_with e) ∙ handled

  -- the answer copies identifier, station and sequence number, and nothing of the message
  pub receive_answered : (y : Reply) → o ≡ Some y
      → (q : InFlight) → q ≡ carried p.to (answer_to p.from (record { identifier = r.identifier; station = r.station; sequence = r.sequence; message = stale_move }) (message_in y))
      → (s : Outbox) → s ≡ outbox_of (q ∷ []) → record { answer = 0; point = g; sent = s; given_up = 0 } ≡ receive_of i m p a
  unfolding answer_to packet_of
  receive_answered y e q f s k =
      ap (λ (s : Outbox). record { answer = 0; point = g; sent = s; given_up = 0 }) (k ∙ ap (λ (x : InFlight). outbox_of (x ∷ [])) f)
      ∙ sym (ap handled_with e) ∙ handled

-- lose

module _ (i m : ℕ) (a : AccessPoint) where
  pub lose_none : m ≤ i → unchanged_by 12 a ≡ lose_of i m a
  unfolding lose_of
  lose_none h = rw (le-ltb i m h)

  pub lose_done : i < m → unchanged_by 0 a ≡ lose_of i m a
  unfolding lose_of
  lose_done h = rw (lt-ltb i m h)
