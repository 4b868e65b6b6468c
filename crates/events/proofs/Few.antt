-- An event sends eight packets at most.
-- Assumes nothing.
use Prim.Native.Nat.{ℕ, suc, ◌≤◌}
use mathlib.Core.Path.{◌≡◌, refl, ap}
use mathlib.Core.List.{List, [], ◌∷◌, map}
use Rattle.std.specs.Prelude.{Option}
use native.Mathlib.Omega.{arith}
use lib.ListN.{length, length-map, length-take}
use Rattle.lists.specs.Table.{Test, first_of, accepts}
use Rattle.lists.proofs.Bools.{by_cond}
use Rattle.structs.specs.declared.InFlight.{InFlight}
use Rattle.machine.specs.Stations.{Station}
use Rattle.machine.specs.Packets.{add_notify, Packet, carried}
use Rattle.machine.specs.Moves.{Open, notices_of, resends}
use Rattle.machine.specs.AccessPoint as machine
use Rattle.machine.specs.AccessPoint.{quietly, another, this, nowhere, Origin, join_from, leave_by, tick_by, answering_with, receive}
use Rattle.machine.proofs.Parts.{by_receipt}
use Rattle.structs.specs.declared.AccessPoint.{AccessPoint}
use Rattle.record.specs.Lens.{named, get_point}
use Rattle.structs.specs.Lists.{get_moves}
use Rattle.record.specs.Valid.{Usable}
use Rattle.moves.proofs.Laws.{resends_few}
use Rattle.in_flight.specs.Post.{outbox_of}
use Rattle.sending.proofs.Notices.{notifies_few}
use Rattle.actions.specs.Done.{Done, unchanged_by, done_by, decided, no_packet, join_of, leave_of, tick_of, receive_of, lose_of}
use Rattle.structs.specs.declared.Kind.{Kind}
use Rattle.structs.specs.declared.Kind.TheVariants.{Join, Leave, Deliver, Repeat, Lose, Tick, Who}
use Rattle.events.specs.Apart.{action_for}

abbrev FewSends : machine.Action → Type 0
FewSends x = length x.sends ≤ 8

-- the machine's rules

join_few : (o : Origin) (k t r b : ℕ) (s : Station) (n : ℕ) (c : List ℕ) (a : machine.AccessPoint) → k ≤ 8 → FewSends (join_from o k t r 0 b s n c a)
unfolding join_from quietly
join_few (another o) k t r b s n c a h = omega arith
join_few this k t r b s n c a h = omega arith
join_few nowhere k t r b s n c a h = omega (arith, h, notifies_few b (record { identifier = a.next_identifier; station = s; sequence = n; message = add_notify }) 0 k)

notices_length : (ms : List Open) → length (notices_of ms) ≡ length ms
unfolding notices_of
notices_length [] = refl
notices_length (m ∷ ms) = ap suc (notices_length ms)

tick_few : (t : ℕ) (a : AccessPoint) → Usable a → FewSends (tick_by t (get_point a))
unfolding tick_by get_point
tick_few t a u =
    let ms : List Open = map named (get_moves a.moves) in
    omega (arith, notices_length (resends t ms), resends_few t ms, length-map (get_moves a.moves) named, length-take a.moves.count a.moves.items, u.moves)

receive_few : (from : ℕ) (p : Packet) (a : machine.AccessPoint) → FewSends (receive from p a)
unfolding receive quietly answering_with
receive_few from p a = by_receipt FewSends a from p (λ b e. omega arith) (λ x b e. omega arith) (λ m rs e. omega arith) p.message

-- what is done then

abbrev FewSent : Done → Type 0
FewSent x = x.sent.count ≤ 8

none_sent : (n : ℕ) (a : AccessPoint) → FewSent (unchanged_by n a)
unfolding outbox_of
none_sent n a = omega arith

done_few : (b : ℕ) (a : AccessPoint) (x : machine.Action) → FewSends x → FewSent (done_by b a x)
unfolding done_by outbox_of
done_few b a x h = omega (arith, h, length-map x.sends (carried b))

decided_few : (ts : List Test) (b : ℕ) (a : AccessPoint) (x : machine.Action) → FewSends x → FewSent (decided ts b a x)
unfolding decided
decided_few ts b a x h = by_cond FewSent (accepts (first_of ts)) (λ e. done_few b a x h) (λ e. none_sent (first_of ts) a)

pub few_sent : (kind : Kind) (at : ℕ) (s : Station) (n : ℕ) (old : Option ℕ) (c : List ℕ) (k t r m : ℕ) (a : AccessPoint) (p : InFlight) → Usable a → k ≤ 8
    → (action_for kind at s n old c k t r m a p).sent.count ≤ 8
unfolding join_of leave_of tick_of receive_of lose_of leave_by quietly
few_sent Join at s n old c k t r m a p u h = decided_few _ at a _ (join_few _ k t r at s n c (get_point a) h)
few_sent Leave at s n old c k t r m a p u h = decided_few _ at a (leave_by s (get_point a)) (omega arith)
few_sent Deliver at s n old c k t r m a p u h = decided_few _ p.to a _ (receive_few p.from _ (get_point a))
few_sent Repeat at s n old c k t r m a p u h = decided_few _ p.to a _ (receive_few p.from _ (get_point a))
few_sent Lose at s n old c k t r m a p u h = none_sent (first_of (no_packet m at ∷ [])) a
few_sent Tick at s n old c k t r m a p u h = decided_few _ at a _ (tick_few t a u)
few_sent Who at s n old c k t r m a p u h = none_sent 0 a
