-- The network's parts after a change; and a tick, the old AP of a join and a receipt by cases.
-- Assumes nothing.
use Prim.Native.Nat.{ℕ, ◌<◌, ◌≤◌, ◌-◌}
use mathlib.Core.Bool.{false}
use mathlib.Core.Path.{◌≡◌, refl}
use mathlib.Core.List.{List, [], ◌∷◌, ◌++◌}
use Rattle.std.specs.Prelude.{Option, Some}
use lib.Dec.{eqb, ltb}
use lib.ListN.{length, get_or-eq_default}
use lib.Seq.{get_or-set_same}
use borrow.Author.Tests.{ltb-true, ltb-false, eqb-true, eqb-false}
use Rattle.lists.proofs.Bools.{by_cond}
use Rattle.lists.proofs.Choices.{by_option, not_some, some_inj}
use Rattle.lists.proofs.Every.{get_or_set, get_or_set_own}
use Rattle.sequence.specs.Distance.{newer_of}
use Rattle.structs.specs.declared.Association.{Association}
use Rattle.structs.specs.declared.InFlight.{InFlight}
use Rattle.machine.specs.Associations.{sequence_of}
use Rattle.machine.specs.Packets.{Message, add_notify, move_notify, successful, stale_move, Packet, Outgoing, carried}
use Rattle.machine.specs.Moves.{Open, Fate, waits, again, lapses, fate, timed, earliest, close, answering}
use Rattle.machine.specs.AccessPoint.{AccessPoint, new_point, Origin, another, this, nowhere, origin_of, Action, with_associations, with_moves, quietly, answering_with, receive_add, receive_notify, receive_response, receive_by}
use Rattle.machine.specs.Network.{Network, access_point_at, set_point, set_in_flight, send, send_all}

-- access point by access point

pub point_set : (P : AccessPoint → Type 0) (f : Network) (b c : ℕ) (a : AccessPoint) → P (access_point_at f c) → (b ≡ c → P a) → P (access_point_at (set_point b a f) c)
unfolding access_point_at set_point
point_set P f b c a h k = get_or_set P f.points b c a new_point h k

pub point_set_same : (f : Network) (b : ℕ) (a : AccessPoint) → b < length f.points → access_point_at (set_point b a f) b ≡ a
unfolding access_point_at set_point
point_set_same f b a h = get_or-set_same f.points b a new_point h

pub point_out : (f : Network) (b : ℕ) → length f.points ≤ b → access_point_at f b ≡ new_point
unfolding access_point_at
point_out f b h = get_or-eq_default f.points new_point h

pub point_set_own : (P : AccessPoint → Type 0) (f : Network) (b : ℕ) (a : AccessPoint) → P a → P new_point → P (access_point_at (set_point b a f) b)
unfolding access_point_at set_point
point_set_own P f b a h k = get_or_set_own P f.points b a new_point h k

-- sending keeps what does not depend on the packets in flight
pub send_all_keeps : (P : Network → Type 0) → ((ws : List InFlight) (g : Network) → P g → P (set_in_flight ws g)) → (from : ℕ) (xs : List Outgoing) (f : Network) → P f → P (send_all from xs f)
unfolding send_all send
send_all_keeps P h from [] f k = k
send_all_keeps P h from (x ∷ xs) f k =
    send_all_keeps P h from xs _ (by_cond P (ltb (length f.in_flight) 64) (λ q. h (f.in_flight ++ (carried from x ∷ [])) f k) (λ q. k))

-- a tick, by cases
pub by_fate :
    (P : Fate → Type 0) (t : ℕ) (m : Open)
    → (1 < m.move.ticks_left → P (waits (timed m (m.move.ticks_left - 1) m.move.resends_left)))
    → (0 < m.move.resends_left → P (again (timed m t (m.move.resends_left - 1))))
    → P lapses
    → P (fate t m)
unfolding fate
by_fate P t m a b c =
    by_cond P (ltb 1 m.move.ticks_left) (λ q. a (ltb-true 1 m.move.ticks_left q))
    (λ q. by_cond P (ltb 0 m.move.resends_left) (λ r. b (ltb-true 0 m.move.resends_left r)) (λ r. c))

-- the old AP of a join, by cases
pub by_origin :
    (P : Origin → Type 0) (k b : ℕ) (old : Option ℕ)
    → ((o : ℕ) → old ≡ Some o → (o ≡ b → ⊥) → o < k → P (another o))
    → (old ≡ Some b → P this)
    → (((o : ℕ) → old ≡ Some o → k ≤ o) → P nowhere)
    → P (origin_of k b old)
unfolding origin_of
by_origin P k b old x y z =
    by_option P old (λ e. z (λ o q. not_some e q))
    (λ o e. by_cond P (eqb o b) (λ q. y (rw (← eqb-true o b q) e))
    (λ q. by_cond P (ltb o k) (λ r. x o e (eqb-false o b q) (ltb-true o k r))
    (λ r. inside o e r)))
  where
    inside : (o : ℕ) → old ≡ Some o → ltb o k ≡ false → P nowhere
    inside o e r = z (λ o' e'. rw (some_inj e' e) (ltb-false o k r))

-- b has the moves and counts of a
pub record SameMoves (a b : AccessPoint) : Type 0 where
  pub moves : b.moves ≡ a.moves
  pub counts : b.counts ≡ a.counts

-- What a receiver does is one of three things: it changes no move and sends nothing; or it changes none and sends an answer; or it
-- closes the earliest move that agrees.
module _
    (P : Action → Type 0)
    (a : AccessPoint)
    (from : ℕ)
    (p : Packet)
    (quiet : (b : AccessPoint) → SameMoves a b → P (quietly b))
    (answers : (x : Message) (b : AccessPoint) → SameMoves a b → P (answering_with from p x b))
    (closes : (m : Open) (rs : List Association) → earliest from p a.moves ≡ Some m
    → P (record { point = with_moves (close from p a.moves) (answering m) (with_associations rs a); sends = []; happened = answering m }))
  where
    same : SameMoves a a
    same = record { moves = refl; counts = refl }

    rows : (rs : List Association) → SameMoves a (with_associations rs a)
    unfolding with_associations
    rows rs = record { moves = refl; counts = refl }

    by_response : (rs : List Association) → P (receive_response from p rs a)
    unfolding receive_response
    by_response rs = by_option P (earliest from p a.moves) (λ e. quiet a same) (λ m e. closes m rs e)

    pub by_receipt : (x : Message) → P (receive_by x from p a)
    unfolding receive_by receive_add receive_notify
    by_receipt add_notify = quiet _ (rows _)
    by_receipt move_notify =
        by_option P (sequence_of p.station a.associations) (λ e. answers (successful []) a same)
        (λ m e. by_cond P (newer_of p.sequence m) (λ q. answers _ _ (rows _)) (λ q. answers stale_move a same))
    by_receipt (successful c) = by_response _
    by_receipt stale_move = by_response _
