-- "four counts: opened, resent, answered, given up, each the count from its history modulo 4294967296. Opened equals answered plus
-- given up plus the moves now open, modulo the same": after every list of events.
-- Assumes nothing.
use Prim.Native.Nat.{ℕ, ◌<◌, ◌+◌, ◌%◌}
use mathlib.Core.Bool.{Bool, true, cond}
use mathlib.Core.Path.{◌≡◌, refl, sym, ap, subst, ◌∙◌}
use mathlib.Core.List.{List, [], ◌∷◌}
use lib.Dec.{eqb}
use lib.ListN.{length}
use native.Mathlib.Omega.{arith}
use borrow.Author.Tests.{eqb-true, eqb-false}
use Rattle.lists.specs.Table.{accepts}
use Rattle.lists.specs.Places.{nth, All, nil, cons}
use Rattle.lists.proofs.Bools.{by_cond}
use Rattle.lists.proofs.Choices.{by_bool, by_option}
use Rattle.lists.proofs.Every.{all_nth}
use Rattle.structs.specs.declared.Association.{Association}
use Rattle.machine.specs.Stations.{Station}
use Rattle.machine.specs.Packets.{Message, Packet, packet_in, octets_in}
use Rattle.machine.specs.Moves.{Open, Happened, nothing, Counts, counted, counts_after, close, answering}
use Rattle.machine.specs.AccessPoint.{AccessPoint, new_point, Action, with_associations, with_moves, use_identifier, quietly, Origin, another, this, nowhere, joined, join_from, leave_by, tick_by, answering_with, receive_by, receive}
use Rattle.machine.specs.Network.{Network, access_point_at, set_point, set_in_flight}
use Rattle.machine.specs.Events.{Event, join, leave, deliver, repeat, lose, tick, who, Formed, refusal, Outcome, quiet, act, receive_frame, receive_at, accepted, step}
use Rattle.machine.specs.Valid.{valid_setup}
use Rattle.machine.specs.History.{World, after, run, begin}
use Rattle.machine.specs.Counted.{history_of, CountsKept}
use Rattle.machine.proofs.Parts.{point_set, point_set_same, send_all_keeps, by_receipt}
use Rattle.machine.proofs.Limits.{Valid}
use Rattle.machine.proofs.Valid.{setup_in, join_passed, tick_passed, leave_passed, new_point_lem, valid_begin, valid_after, valid_from_new}

-- what an access point does is counted

record Tallies (a : AccessPoint) (x : Action) : Type 0 where
  tally : x.point.counts ≡ counts_after x.happened a.counts

module _ (a : AccessPoint) where
  tallies_quietly : (b : AccessPoint) → b.counts ≡ a.counts → Tallies a (quietly b)
  unfolding quietly nothing counts_after counted
  tallies_quietly b e = record { tally = e }

  tallies_answer : (from : ℕ) (p : Packet) (x : Message) (b : AccessPoint) → b.counts ≡ a.counts → Tallies a (answering_with from p x b)
  unfolding answering_with nothing counts_after counted
  tallies_answer from p x b e = record { tally = e }

  tallies_closed : (ms : List Open) (h : Happened) (rs : List Association) → Tallies a (record { point = with_moves ms h (with_associations rs a); sends = []; happened = h })
  unfolding with_moves with_associations
  tallies_closed ms h rs = record { tally = refl }

  tallies_message : (x : Message) (from : ℕ) (p : Packet) → Tallies a (receive_by x from p a)
  tallies_message x from p =
      by_receipt (Tallies a) a from p (λ b e. tallies_quietly b e.counts) (λ y b e. tallies_answer from p y b e.counts) (λ m rs e. tallies_closed (close from p a.moves) (answering m) rs) x

tallies_join : (x : Origin) (k t r name b : ℕ) (s : Station) (n : ℕ) (c : List ℕ) (a : AccessPoint) → Tallies a (join_from x k t r name b s n c a)
unfolding join_from quietly nothing with_moves use_identifier joined with_associations counts_after counted
tallies_join (another o) k t r name b s n c a = record { tally = refl }
tallies_join this k t r name b s n c a = record { tally = refl }
tallies_join nowhere k t r name b s n c a = record { tally = refl }

tallies_leave : (s : Station) (a : AccessPoint) → Tallies a (leave_by s a)
unfolding leave_by quietly nothing with_associations counts_after counted
tallies_leave s a = record { tally = refl }

tallies_tick : (t : ℕ) (a : AccessPoint) → Tallies a (tick_by t a)
unfolding tick_by with_moves
tallies_tick t a = record { tally = refl }

-- the counts of AP c after an event
abbrev Counted : Network → ℕ → Outcome → Type 0
Counted f c o = (access_point_at o.network c).counts ≡ cond (eqb c o.at) (counts_after o.happened (access_point_at f c).counts) (access_point_at f c).counts

module _ (f : Network) (c : ℕ) where
  counted_quiet : (a : ℕ) (g : Network) → access_point_at g c ≡ access_point_at f c → Counted f c (quiet a g)
  unfolding quiet nothing counts_after counted
  counted_quiet a g e = ap (λ (x : AccessPoint). x.counts) e ∙ by_cond (λ (x : Counts). (access_point_at f c).counts ≡ x) (eqb c 0) (λ q. refl) (λ q. refl)

  counted_act : (b : ℕ) (x : Action) (g : Network) → ◌≡◌ {A = ℕ → AccessPoint} (access_point_at g) (access_point_at f) → b < length g.points → Tallies (access_point_at g b) x → Counted f c (act b x g)
  unfolding act
  counted_act b x g d l t =
      send_all_keeps (λ (h : Network). (access_point_at h c).counts ≡ cond (eqb c b) (counts_after x.happened (access_point_at f c).counts) (access_point_at f c).counts)
      (λ ws h k. unfold set_in_flight access_point_at in k) b x.sends (set_point b x.point g)
      (by_bool (λ (q : Bool). eqb c b ≡ q → (access_point_at (set_point b x.point g) c).counts ≡ cond q (counts_after x.happened (access_point_at f c).counts) (access_point_at f c).counts) (eqb c b)
      (λ q e. own (eqb-true c b e)) (λ q e. other (eqb-false c b e)) refl)
    where
      own : c ≡ b → (access_point_at (set_point b x.point g) c).counts ≡ counts_after x.happened (access_point_at f c).counts
      own e = rw e (ap (λ (a : AccessPoint). a.counts) (point_set_same g b x.point l) ∙ t.tally ∙ ap (λ (p : ℕ → AccessPoint). counts_after x.happened (p b).counts) d)

      other : (c ≡ b → ⊥) → (access_point_at (set_point b x.point g) c).counts ≡ (access_point_at f c).counts
      other e =
          point_set (λ (a : AccessPoint). a.counts ≡ (access_point_at f c).counts) g b c x.point (ap (λ (p : ℕ → AccessPoint). (p c).counts) d) (λ q. absurd (e (sym q)))

module _ {C : Type 0} {n : ℕ} {f : Network} (v : Valid C n f) (c : ℕ) where
  counted_receive : (k : ℕ) (g : Network) → ◌≡◌ {A = ℕ → AccessPoint} (access_point_at g) (access_point_at f) → length g.points ≡ length f.points → Counted f c (receive_at k f.in_flight g)
  unfolding receive_at receive_frame receive
  counted_receive k g d s =
      by_option (Counted f c) (nth k f.in_flight) (λ q. counted_quiet f c 0 g (ap (λ (p : ℕ → AccessPoint). p c) d))
      (λ w q. by_option (Counted f c) (packet_in (octets_in w)) (λ e. counted_quiet f c 0 g (ap (λ (p : ℕ → AccessPoint). p c) d))
      (λ p e. counted_act f c w.to _ g d (subst (λ (i : ℕ). w.to < i) (sym (s ∙ v.count)) (all_nth k f.in_flight w q v.air).to) (tallies_message (access_point_at g w.to) p.message w.from p)))

  counted_accepted : (p : ℕ) (e : Event) → accepts (refusal f e) ≡ true → Counted f c (accepted f p e)
  unfolding accepted
  counted_accepted p (join b s m old x) r = counted_act f c b _ f refl (join_passed f b s m old x r).there (tallies_join _ _ _ _ _ _ s m x (access_point_at f b))
  counted_accepted p (leave b s) r = counted_act f c b _ f refl (leave_passed f b s r) (tallies_leave s (access_point_at f b))
  counted_accepted p (deliver k) r = counted_receive k (set_in_flight _ f) (unfold set_in_flight access_point_at in refl) (unfold set_in_flight in refl)
  counted_accepted p (repeat k) r = counted_receive k f refl refl
  counted_accepted p (lose k) r = counted_quiet f c 0 (set_in_flight _ f) (unfold set_in_flight access_point_at in refl)
  counted_accepted p (tick b) r = counted_act f c b _ f refl (tick_passed f b r) (tallies_tick f.timeout (access_point_at f b))
  counted_accepted p (who s) r = unfold nothing counts_after counted in by_cond (λ (x : Counts). (access_point_at f c).counts ≡ x) (eqb c 0) (λ q. refl) (λ q. refl)

  counted_step : (p : ℕ) (e : Event) → Counted f c (step f p e)
  unfolding step
  counted_step p e = by_cond (Counted f c) (accepts (refusal f e)) (λ q. counted_accepted p e q) (λ q. counted_quiet f c (refusal f e) f refl)

-- one of the four counts, and the moves that it counts
record Part : Type 0 where
  count : Counts → ℕ
  moves : Happened → List Open
  starts : count new_point.counts ≡ 0
  counts : (h : Happened) (c : Counts) → count (counts_after h c) ≡ counted (count c) (moves h)

unfoldable opened_part : Part
unfolding counts_after new_point
opened_part = record { count = λ c. c.opened; moves = λ h. h.opened; starts = refl; counts = λ h c. refl }

unfoldable resent_part : Part
unfolding counts_after new_point
resent_part = record { count = λ c. c.resent; moves = λ h. h.resent; starts = refl; counts = λ h c. refl }

unfoldable answered_part : Part
unfolding counts_after new_point
answered_part = record { count = λ c. c.answered; moves = λ h. h.answered; starts = refl; counts = λ h c. refl }

unfoldable given_up_part : Part
unfolding counts_after new_point
given_up_part = record { count = λ c. c.given_up; moves = λ h. h.given_up; starts = refl; counts = λ h c. refl }

counted_history : (h : ℕ) (ms : List Open) → counted (h % 4294967296) ms ≡ (length ms + h) % 4294967296
unfolding counted
counted_history h [] = omega arith
counted_history h (m ∷ ms) =
    let e : (h % 4294967296 + 1) % 4294967296 ≡ (h + 1) % 4294967296 = omega arith in
    rw e (counted_history (h + 1) ms ∙ omega arith)

module _ (P : Part) where
  abbrev Tallied : World → Type 0
  Tallied w = (b : ℕ) → P.count (access_point_at w.network b).counts ≡ history_of b P.moves w.log % 4294967296

  tallied_begin : (n t r : ℕ) → Tallied (begin n t r)
  unfolding begin history_of
  tallied_begin n t r b = ap (λ (a : AccessPoint). P.count a.counts) (new_point_lem n t r b) ∙ P.starts

  tallied_after : {C : Type 0} {n : ℕ} (w : World) (e : Event) → Valid C n w.network → Tallied w → Tallied (after w e)
  unfolding after history_of
  tallied_after w e v k b =
      let o = step w.network (length w.log) e in
      let h = history_of b P.moves w.log in
      ap P.count (counted_step v b (length w.log) e)
      ∙ by_bool
      (λ (q : Bool). P.count (cond q (counts_after o.happened (access_point_at w.network b).counts) (access_point_at w.network b).counts) ≡ (cond q (length (P.moves o.happened)) 0 + h) % 4294967296) (eqb b o.at)
      (λ q. P.counts o.happened (access_point_at w.network b).counts ∙ ap (λ (c : ℕ). counted c (P.moves o.happened)) (k b) ∙ counted_history h (P.moves o.happened))
      (λ q. k b ∙ omega arith)

  tallied_run : {C : Type 0} {n : ℕ} (w : World) (es : List Event) → All Formed es → Valid C n w.network → Tallied w → Tallied (run w es)
  unfolding run
  tallied_run w [] nil v k = k
  tallied_run w (e ∷ es) (cons z zs) v k = tallied_run (after w e) es zs (valid_after w e z v) (tallied_after w e v k)

-- after every list of events, of AP b
pub counts_kept : (n t r : ℕ) → valid_setup n t r ≡ true → (es : List Event) → All Formed es → (b : ℕ) → CountsKept b (run (begin n t r) es)
unfolding valid_setup opened_part resent_part answered_part given_up_part
counts_kept n t r setup es formed b =
    record {
      opened = of opened_part;
      resent = of resent_part;
      answered = of answered_part;
      given_up = of given_up_part;
      balance = ((valid_from_new {C = Unit {0}} n t r (setup_in n t r setup) es formed).points b).balance tt;
    }
  where
    of : (P : Part) → P.count (access_point_at (run (begin n t r) es).network b).counts ≡ history_of b P.moves (run (begin n t r) es).log % 4294967296
    of P = tallied_run P {C = Unit {0}} (begin n t r) es formed (valid_begin n t r (setup_in n t r setup)) (tallied_begin P n t r) b
