-- The rules of one access point keep the invariant: what it does when a packet is received, at a tick, and when a station leaves or
-- joins.
-- Assumes nothing.
use Prim.Native.Nat.{ℕ, zero, suc, ◌<◌, ◌≤◌, ◌-◌}
use mathlib.Core.Bool.{Bool, true, false, ◌&&◌, ◌||◌}
use mathlib.Core.Path.{◌≡◌, refl, sym, subst, ◌∙◌}
use mathlib.Core.List.{List, [], ◌∷◌, ◌++◌}
use mathlib.Core.Logic.{◌⊎◌, inl, inr, ◌≢◌}
use Rattle.std.specs.Prelude.{Option, None, Some}
use lib.Dec.{eqb}
use lib.ListN.{length}
use borrow.Author.Tests.{eqb-true, eqb-false, eq-eqb}
use Rattle.lists.proofs.Bools.{by_cond}
use Rattle.lists.proofs.Choices.{by_bool, by_option, and_left, and_right, not_both, not_some, some_inj, is_none, or_true_right}
use Rattle.lists.specs.Places.{All, nil, cons}
use Rattle.lists.proofs.Every.{all_map, all_append}
use Rattle.sequence.specs.Distance.{newer_of}
use Rattle.sequence.proofs.Laws.{newer_irrefl}
use Rattle.structs.specs.declared.Association.{Association}
use Rattle.machine.specs.Stations.{Station, same}
use Rattle.machine.specs.Associations.{Context, given, association, sequence_of, held_context, dissociate, dissociate_older, dissociate_exactly, fill}
use Rattle.machine.specs.Packets.{Message, add_notify, move_notify, successful, stale_move, Packet}
use Rattle.machine.specs.Moves.{Open, new_move, opening, notice_of, notices_of, agrees, earliest, close, answering, timed, Fate, kept_from, kept, resent_by, resends, lapsed_by, lapsed}
use Rattle.machine.specs.AccessPoint.{AccessPoint, new_point, Action, with_associations, with_moves, use_identifier, quietly, Origin, another, this, nowhere, origin_of, joined, add_notifies, join_from, leave_by, tick_by, answer_to, answering_with, receive_add, receive_notify, receive_response, receive_by, receive}
use Rattle.machine.specs.Network.{Network, access_point_at, set_point}
use Rattle.machine.specs.Events.{leave}
use Rattle.machine.specs.Joins.{Join, left_with}
use Rattle.machine.specs.Stronger.{is_move, move_among}
use Rattle.machine.specs.Claim.{InOrder}
use Rattle.machine.proofs.Stations.{same_true, same_refl, same_of_eq, same_of_ne, same_or_not}
use Rattle.machine.proofs.Associations.{sequence_associate, sequence_associate_other, sequence_dissociate, sequence_dissociate_other, sequence_fill, dissociate_shrinks, by_older, by_exactly}
use Rattle.machine.proofs.Parts.{point_set, point_set_same, point_set_own, point_out, by_fate, by_origin}
use Rattle.machine.proofs.PointLimits.{close_all}
use Rattle.machine.proofs.Invariant.{Last, LastAt, Carries, Holds, View, row_at, Settled, GivenUp, MessageOk, PacketOk, OutgoingOk, MoveOk, HandedTo, Handed, Inv, last_newest, last_row, stale_passed, Shrinks, move_grows, inv_change, inv_point, at_join, join_grows, inv_join, inv_given_up}

-- the invariant after an access point's action but for its packets, and what is said of these
abbrev pub Acted : Station → List Join → (ℕ → Bool) → GivenUp → Network → ℕ → Action → Type 0
Acted s J G L f b x = Inv s J G L (set_point b x.point f) × All (OutgoingOk s J (row_at s (set_point b x.point f)) b) x.sends

-- the association at b after its record was set
settled_own : (s : Station) (f : Network) (b : ℕ) (a : AccessPoint) (n : ℕ) → ((m : ℕ) → sequence_of s a.associations ≡ Some m → newer_of n m ≡ false) → Settled (row_at s (set_point b a f)) b n
unfolding new_point sequence_of
settled_own s f b a n h m = point_set_own (λ (x : AccessPoint). sequence_of s x.associations ≡ Some m → newer_of n m ≡ false) f b a (h m) (λ e. not_some refl e)

-- associations of which none but the station's may be gone, and that not where it is the latest join's
record Removal (s : Station) (J : List Join) (f : Network) (b : ℕ) (rs : List Association) : Type 0 where
  row : (m : ℕ) → sequence_of s rs ≡ Some m → row_at s f b ≡ Some m
  keeps : (n : ℕ) → LastAt n b J → sequence_of s rs ≡ row_at s f b

-- moves

abbrev Answers : ℕ → Packet → Station → ℕ → ℕ → Type 0
Answers from p s n o = (p.station ≡ s) × (p.sequence ≡ n) × (from ≡ o)

agrees_answers : (from : ℕ) (p : Packet) (m : Open) → agrees from p m.move ≡ true → Answers from p m.move.station m.move.sequence m.move.old
unfolding agrees
agrees_answers from p m e =
    let x = and_left (eqb p.identifier m.move.identifier && same p.station m.move.station && eqb p.sequence m.move.sequence) (eqb from m.move.old) e in
    let y = and_left (eqb p.identifier m.move.identifier && same p.station m.move.station) (eqb p.sequence m.move.sequence) x in (
      same_true p.station m.move.station (and_right (eqb p.identifier m.move.identifier) (same p.station m.move.station) y),
      eqb-true p.sequence m.move.sequence (and_right (eqb p.identifier m.move.identifier && same p.station m.move.station) (eqb p.sequence m.move.sequence) x),
      eqb-true from m.move.old (and_right (eqb p.identifier m.move.identifier && same p.station m.move.station && eqb p.sequence m.move.sequence) (eqb from m.move.old) e),
    )

-- a move that an answer closes is one that it answers
close_holds : (from : ℕ) (p : Packet) (s : Station) (n o i : ℕ) (ms : List Open) → Holds s n o i ms → Holds s n o i (close from p ms) ⊎ Answers from p s n o
unfolding close
close_holds from p s n o i [] x' = elim x' [ ]
close_holds from p s n o i (m ∷ ms) (inl h) =
    by_cond (λ (l : List Open). Holds s n o i l ⊎ Answers from p s n o) (agrees from p m.move)
    (λ q. let a = agrees_answers from p m q in inr (a.0 ∙ h.station, a.1 ∙ h.sequence, a.2 ∙ h.old)) (λ q. inl (inl h))
close_holds from p s n o i (m ∷ ms) (inr h) =
    by_cond (λ (l : List Open). Holds s n o i l ⊎ Answers from p s n o) (agrees from p m.move) (λ q. inl h) (λ q. go (close_holds from p s n o i ms h))
  where
    go : Holds s n o i (close from p ms) ⊎ Answers from p s n o → Holds s n o i (m ∷ close from p ms) ⊎ Answers from p s n o
    go (inl x) = inl (inr x)
    go (inr x) = inr x

module _ {s : Station} {J : List Join} {G : ℕ → Bool} {L : GivenUp} {f : Network} (v : Inv s J G L f) (b : ℕ) where
  as_before : Removal s J f b (access_point_at f b).associations
  as_before = record { row = λ m e. e; keeps = λ n k. refl }

  filled : (t : Station) (n : ℕ) (c : List ℕ) → Removal s J f b (fill t n c (access_point_at f b).associations)
  filled t n c =
      record {
        row = λ m e. sym (sequence_fill s t n c (access_point_at f b).associations) ∙ e;
        keeps = λ m k. sequence_fill s t n c (access_point_at f b).associations;
      }

  removed : (t : Station) → (s ≡ t → (m : ℕ) → row_at s f b ≡ Some m → ¬ Last m J) → Removal s J f b (dissociate t (access_point_at f b).associations)
  removed t h =
      record {
        row = dissociate_shrinks s t (access_point_at f b).associations;
        keeps = λ n k. go n k (same_or_not s t);
      }
    where
      go : (n : ℕ) → LastAt n b J → (s ≡ t) ⊎ (s ≢ t) → sequence_of s (dissociate t (access_point_at f b).associations) ≡ row_at s f b
      go n k (inl q) =
          rw (← q) (sequence_dissociate s (access_point_at f b).associations ∙ sym (is_none (row_at s f b) (λ m e. h q m e (last_row n b m J k (v.rows b m e)))))
      go n k (inr q) = sequence_dissociate_other s t (access_point_at f b).associations q

  -- other associations
  fewer : (rs : List Association) → ((m : ℕ) → sequence_of s rs ≡ Some m → row_at s f b ≡ Some m) → Shrinks s J L f b (with_associations rs (access_point_at f b))
  unfolding with_associations
  fewer rs h = record { row = h; moves = v.moves b; held = λ n o p k. inl k }

  inv_removal : (rs : List Association) → Removal s J f b rs → Inv s J G L (set_point b (with_associations rs (access_point_at f b)) f)
  inv_removal rs h = inv_point v b (with_associations rs (access_point_at f b)) (fewer rs h.row) (unfold with_associations in h.keeps)

  dropped : (t : Station) → t ≡ s → (n : ℕ) → Settled (row_at s (set_point b (with_associations (dissociate t (access_point_at f b).associations) (access_point_at f b)) f)) b n
  unfolding with_associations
  dropped t x n =
      settled_own s f b (with_associations (dissociate t (access_point_at f b).associations) (access_point_at f b)) n
      (λ k r. not_some (sequence_dissociate s (access_point_at f b).associations) (rw x at r))

  -- the record as it is
  inv_same : Inv s J G L (set_point b (access_point_at f b) f)
  inv_same = inv_point v b (access_point_at f b) (record { row = λ m e. e; moves = v.moves b; held = λ n o p k. inl k }) (λ n k. refl)

  -- other associations, and the earliest move that agrees closed
  inv_close : (from : ℕ) (p : Packet) (m : Open) (rs : List Association) → Removal s J f b rs → (p.station ≡ s → Settled (row_at s f) from p.sequence)
      → Inv s J G L (set_point b (with_moves (close from p (access_point_at f b).moves) (answering m) (with_associations rs (access_point_at f b))) f)
  unfolding with_moves with_associations
  inv_close from p m rs h k =
      inv_point v b (with_moves (close from p (access_point_at f b).moves) (answering m) (with_associations rs (access_point_at f b)))
      (record {
        row = h.row;
        moves = close_all from p (access_point_at f b).moves (v.moves b);
        held = λ n o i x. go n o i (close_holds from p s n o i (access_point_at f b).moves x);
      }) h.keeps
    where
      go : (n o i : ℕ) → Holds s n o i (close from p (access_point_at f b).moves) ⊎ Answers from p s n o → HandedTo s L (row_at s f) (close from p (access_point_at f b).moves) n o i
      go n o i (inl x) = inl x
      go n o i (inr x) = inr (inr (rw (← x.1, ← x.2) (k x.0)))

  -- the receiver's rules

  module _ (order : InOrder J) (from : ℕ) (p : Packet) (h : PacketOk s J (row_at s f) from b p) where
    -- an association that a known number is newer than is not that of the latest join
    outdated : (m : ℕ) → sequence_of p.station (access_point_at f b).associations ≡ Some m → newer_of p.sequence m ≡ true → s ≡ p.station → (k : ℕ) → row_at s f b ≡ Some k → ¬ Last k J
    outdated m e q x k r l = not_both q (rw (some_inj (rw (← x) at e) r) (last_newest k p.sequence J order l (h.known (sym x))))

    older : Removal s J f b (dissociate_older p.station p.sequence (access_point_at f b).associations)
    older = by_older (Removal s J f b) p.station p.sequence (access_point_at f b).associations as_before (λ m e q. removed p.station (outdated m e q))

    exactly : (p.station ≡ s → ¬ Last p.sequence J) → Removal s J f b (dissociate_exactly p.station p.sequence (access_point_at f b).associations)
    exactly k =
        by_exactly (Removal s J f b) p.station p.sequence (access_point_at f b).associations as_before
        (λ m e q. removed p.station (λ x i r l. k (sym x) (rw (eqb-true p.sequence m q ∙ some_inj (rw (← x) at e) r) l)))

    acted_response : (rs : List Association) → Removal s J f b rs → (p.station ≡ s → Settled (row_at s f) from p.sequence) → Acted s J G L f b (receive_response from p rs (access_point_at f b))
    unfolding receive_response quietly
    acted_response rs r k =
        by_option (Acted s J G L f b) (earliest from p (access_point_at f b).moves) (λ e. (inv_same, nil)) (λ m e. (inv_close from p m rs r k, nil))

    acted_notify : (p.station ≡ s → ¬ LastAt p.sequence b J) → Acted s J G L f b (receive_notify from p (access_point_at f b))
    unfolding receive_notify answering_with answer_to
    acted_notify a =
        by_option (Acted s J G L f b) (sequence_of p.station (access_point_at f b).associations)
        (λ e. (inv_same, cons (record { known = h.known; message = λ x. settled_own s f b (access_point_at f b) p.sequence (λ m r. not_some (rw x at e) r) }) nil))
        (λ m e. by_cond (Acted s J G L f b) (newer_of p.sequence m)
        (λ q. (
          inv_removal _ (removed p.station (outdated m e q)),
          cons (record { known = h.known; message = λ x. dropped p.station x p.sequence }) nil,
        ))
        (λ q. (
          inv_same,
          cons (record { known = h.known; message = λ x. (settled_own s f b (access_point_at f b) p.sequence (λ k r. rw (some_inj r (rw x at e)) q), stale_passed p.sequence m b J order (v.rows b m (rw x at e)) q (a x)) }) nil,
        )))

    acted_message : (x : Message) → (p.station ≡ s → MessageOk J (row_at s f) from b p x) → Acted s J G L f b (receive_by x from p (access_point_at f b))
    unfolding receive_by receive_add quietly
    acted_message add_notify k = (inv_removal _ older, nil)
    acted_message move_notify k = acted_notify k
    acted_message (successful c) k = acted_response _ (filled p.station p.sequence c) k
    acted_message stale_move k = acted_response _ (exactly (λ e. (k e).1)) (λ e. (k e).0)

    pub acted_receive : Acted s J G L f b (receive from p (access_point_at f b))
    unfolding receive
    acted_receive = acted_message p.message h.message

-- tick

module _ {s : Station} {J : List Join} where
  timed_ok : (m : Open) (t r : ℕ) → MoveOk s J m → MoveOk s J (timed m t r)
  unfolding timed
  timed_ok m t r h = record { known = h.known; away = h.away }

  kept_all : (t : ℕ) (ms : List Open) → All (MoveOk s J) ms → All (MoveOk s J) (kept t ms)
  unfolding kept kept_from
  kept_all t [] nil = nil
  kept_all t (m ∷ ms) (cons h hs) =
      let r = kept_all t ms hs in
      by_fate (λ (x : Fate). All (MoveOk s J) (kept_from x (kept t ms))) t m (λ k. cons (timed_ok m (m.move.ticks_left - 1) m.move.resends_left h) r)
      (λ q. cons (timed_ok m t (m.move.resends_left - 1) h) r) r

  resends_all : (t : ℕ) (ms : List Open) → All (MoveOk s J) ms → All (MoveOk s J) (resends t ms)
  unfolding resends resent_by
  resends_all t [] nil = nil
  resends_all t (m ∷ ms) (cons h hs) =
      let r = resends_all t ms hs in
      by_fate (λ (x : Fate). All (MoveOk s J) (resent_by x (resends t ms))) t m (λ k. r) (λ q. cons (timed_ok m t (m.move.resends_left - 1) h) r) r

  notice_ok : (R : View) (b : ℕ) (m : Open) → MoveOk s J m → OutgoingOk s J R b (notice_of m)
  unfolding notice_of
  notice_ok R b m h = record { known = h.known; message = h.away }

  notices_all : (R : View) (b : ℕ) (ms : List Open) → All (MoveOk s J) ms → All (OutgoingOk s J R b) (notices_of ms)
  unfolding notices_of
  notices_all R b [] nil = nil
  notices_all R b (m ∷ ms) (cons h hs) = cons (notice_ok R b m h) (notices_all R b ms hs)

-- a move that carries these is that one
is_move_lem : (s : Station) (n o p : ℕ) (m : Open) → Carries s n o p m → is_move s o p m ≡ true
unfolding is_move
is_move_lem s n o p m h = rw (same_of_eq s m.move.station (sym h.station), eq-eqb o m.move.old (sym h.old), eq-eqb p m.name (sym h.name))

-- a move that a tick does not keep is given up
tick_holds : (s : Station) (n o p t : ℕ) (ms : List Open) → Holds s n o p ms → Holds s n o p (kept t ms) ⊎ (move_among s o p (lapsed t ms) ≡ true)
unfolding kept lapsed kept_from lapsed_by timed move_among
tick_holds s n o p t [] x' = elim x' [ ]
tick_holds s n o p t (m ∷ ms) (inl h) =
    by_fate (λ (x : Fate). Holds s n o p (kept_from x (kept t ms)) ⊎ (move_among s o p (lapsed_by x m (lapsed t ms)) ≡ true)) t m
    (λ k. inl (inl (record { station = h.station; sequence = h.sequence; old = h.old; name = h.name })))
    (λ q. inl (inl (record { station = h.station; sequence = h.sequence; old = h.old; name = h.name })))
    (inr (rw (is_move_lem s n o p m h)))
tick_holds s n o p t (m ∷ ms) (inr h) =
    let r = tick_holds s n o p t ms h in
    by_fate (λ (x : Fate). Holds s n o p (kept_from x (kept t ms)) ⊎ (move_among s o p (lapsed_by x m (lapsed t ms)) ≡ true)) t m
    (λ k. later (timed m (m.move.ticks_left - 1) m.move.resends_left) r) (λ q. later (timed m t (m.move.resends_left - 1)) r) (over r)
  where
    later : (y : Open) → Holds s n o p (kept t ms) ⊎ (move_among s o p (lapsed t ms) ≡ true) → Holds s n o p (y ∷ kept t ms) ⊎ (move_among s o p (lapsed t ms) ≡ true)
    later y (inl x) = inl (inr x)
    later y (inr x) = inr x

    over : Holds s n o p (kept t ms) ⊎ (move_among s o p (lapsed t ms) ≡ true) → Holds s n o p (kept t ms) ⊎ (is_move s o p m || move_among s o p (lapsed t ms) ≡ true)
    over (inl x) = inl x
    over (inr x) = inr (or_true_right (is_move s o p m) (move_among s o p (lapsed t ms)) x)

module _ {s : Station} {J : List Join} {G : ℕ → Bool} {L : GivenUp} {f : Network} (v : Inv s J G L f) (b : ℕ) where
  pub acted_tick : (t : ℕ) → Acted s J G (λ o p. move_among s o p (lapsed t (access_point_at f b).moves) || L o p) f b (tick_by t (access_point_at f b))
  unfolding tick_by with_moves
  acted_tick t = (
    inv_point (inv_given_up (λ o p. move_among s o p (lapsed t (access_point_at f b).moves)) v) b _
        (record {
          row = λ m e. e;
          moves = kept_all t (access_point_at f b).moves (v.moves b);
          held = λ n o p k. go n o p (tick_holds s n o p t (access_point_at f b).moves k);
        }) (λ n k. refl),
    notices_all _ b (resends t (access_point_at f b).moves) (resends_all t (access_point_at f b).moves (v.moves b)),
  )
    where
      go : (n o p : ℕ) → Holds s n o p (kept t (access_point_at f b).moves) ⊎ (move_among s o p (lapsed t (access_point_at f b).moves) ≡ true)
          → HandedTo s (λ o p. move_among s o p (lapsed t (access_point_at f b).moves) || L o p) (row_at s f) (kept t (access_point_at f b).moves) n o p
      go n o p (inl x) = inl x
      go n o p (inr x) = inr (inl (rw x))

-- leave

left_there : (s : Station) (b : ℕ) (f : Network) → row_at s (set_point b (with_associations (dissociate s (access_point_at f b).associations) (access_point_at f b)) f) b ≡ None
unfolding with_associations new_point sequence_of
left_there s b f =
    point_set_own (λ (x : AccessPoint). sequence_of s x.associations ≡ None) f b _ (sequence_dissociate s (access_point_at f b).associations) refl

left_elsewhere : (s : Station) (b c : ℕ) (a : AccessPoint) (f : Network) → c ≢ b → row_at s (set_point b a f) c ≡ row_at s f c
left_elsewhere s b c a f h = point_set (λ (x : AccessPoint). sequence_of s x.associations ≡ row_at s f c) f b c a refl (λ q. absurd (h (sym q)))

module _ {s : Station} {J : List Join} {G : ℕ → Bool} {L : GivenUp} {f : Network} (v : Inv s J G L f) (b : ℕ) where
  leave_other : (t : Station) → s ≢ t → Acted s J (λ (c : ℕ). left_with s c (leave b t) 0 (G c)) L f b (leave_by t (access_point_at f b))
  unfolding left_with leave_by quietly
  leave_other t h = rw (same_of_ne s t h) (inv_removal v b _ (removed v b t (λ e. absurd (h e))), nil)

  leave_own : Acted s J (λ (c : ℕ). left_with s c (leave b s) 0 (G c)) L f b (leave_by s (access_point_at f b))
  unfolding left_with leave_by quietly
  leave_own =
      let a : AccessPoint = with_associations (dissociate s (access_point_at f b).associations) (access_point_at f b) in
      rw (same_refl s) (
        inv_change v b a (fewer v b _ (dissociate_shrinks s s (access_point_at f b).associations))
            (λ c. (eqb c b && eqb 0 0) || G c)
            (λ n c k. by_bool (λ (x : Bool). ((x && eqb 0 0) || G c ≡ false) → row_at s (set_point b a f) c ≡ Some n) (eqb c b)
            (λ q e. not_both refl e) (λ q e. left_elsewhere s b c a f (eqb-false c b q) ∙ v.stays n c k e))
            (λ n c k. by_bool (λ (x : Bool). ((x && eqb 0 0) || G c ≡ true) → row_at s (set_point b a f) c ≡ None) (eqb c b)
            (λ q e. rw (eqb-true c b q) (left_there s b f)) (λ q e. left_elsewhere s b c a f (eqb-false c b q) ∙ v.gone n c k e)),
        nil,
      )

  pub acted_leave : (t : Station) → Acted s J (λ (c : ℕ). left_with s c (leave b t) 0 (G c)) L f b (leave_by t (access_point_at f b))
  acted_leave t = go (same_or_not s t)
    where
      go : (s ≡ t) ⊎ (s ≢ t) → Acted s J (λ (c : ℕ). left_with s c (leave b t) 0 (G c)) L f b (leave_by t (access_point_at f b))
      go (inl e) = rw (← e) leave_own
      go (inr e) = leave_other t e

-- join

row_out : (s : Station) (f : Network) (b : ℕ) → length f.points ≤ b → row_at s f b ≡ None
unfolding sequence_of new_point
row_out s f b h = rw (point_out f b h)

holds_left : (s : Station) (n o p : ℕ) (ms ns : List Open) → Holds s n o p ms → Holds s n o p (ms ++ ns)
holds_left s n o p [] ns x' = elim x' [ ]
holds_left s n o p (m ∷ ms) ns (inl h) = inl h
holds_left s n o p (m ∷ ms) ns (inr h) = inr (holds_left s n o p ms ns h)

holds_last : (s : Station) (n o p : ℕ) (ms : List Open) (m : Open) → Carries s n o p m → Holds s n o p (ms ++ (m ∷ []))
holds_last s n o p [] m h = inl h
holds_last s n o p (x ∷ ms) m h = inr (holds_last s n o p ms m h)

adds_all : (s : Station) (J : List Join) (R : View) (b : ℕ) (p : Packet) (i k : ℕ) → PacketOk s J R b 0 p → p.message ≡ add_notify → All (OutgoingOk s J R b) (add_notifies b p i k)
unfolding add_notifies
adds_all s J R b p i zero h e = nil
adds_all s J R b p i (suc k) h e =
    by_cond (All (OutgoingOk s J R b)) (eqb i b) (λ q. adds_all s J R b p (suc i) k h e)
    (λ q. cons (record { known = h.known; message = λ x. subst (MessageOk J R b i p) (sym e) tt }) (adds_all s J R b p (suc i) k h e))

module _ {s : Station} {J : List Join} {G : ℕ → Bool} {L : GivenUp} {f : Network} (v : Inv s J G L f) (t r name b n : ℕ) (old : Option ℕ) (c : List ℕ) where
  -- a join of the station itself

  module _ (order : InOrder (record { at = b; sequence = n; old = old; place = name } ∷ J)) (fits : b < length f.points) where
    abbrev own : Join
    own = record { at = b; sequence = n; old = old; place = name }

    row_put : (x : Context) → sequence_of s (joined s n x (access_point_at f b)).associations ≡ Some n
    unfolding joined with_associations association
    row_put x = sequence_associate (association s n x) (access_point_at f b).associations

    own_another : (o : ℕ) → old ≡ Some o → o ≢ b → Acted s (own ∷ J) (λ (d : ℕ). false) L f b (join_from (another o) (length f.points) t r name b s n c (access_point_at f b))
    unfolding join_from with_moves use_identifier joined with_associations
    own_another o e h = (inv_join v own a order fits row held ok new, cons (notice_ok _ b m move) nil)
      where
        m : Open
        m = new_move name s n o (access_point_at f b).next_identifier t r

        a : AccessPoint
        a = with_moves ((access_point_at f b).moves ++ (m ∷ [])) (opening m) (use_identifier (joined s n (held_context s (access_point_at f b).associations) (access_point_at f b)))

        row : sequence_of s a.associations ≡ Some n
        row = row_put (held_context s (access_point_at f b).associations)

        held : (k d p : ℕ) → Holds s k d p (access_point_at f b).moves → Holds s k d p a.moves
        held k d p x = holds_left s k d p (access_point_at f b).moves (m ∷ []) x

        move : MoveOk s (own ∷ J) m
        move = unfold new_move in record { known = λ q. inl refl; away = λ q k. h k.1 }

        ok : All (MoveOk s (own ∷ J)) a.moves
        ok = all_append (all_map (move_grows (join_grows v own a order fits row held)) (v.moves b)) (cons move nil)

        new : Handed s L (set_point b a f) own
        new d q =
            inl (rw (point_set_same f b a fits)
            (holds_last s n d name (access_point_at f b).moves m (unfold new_move in record { station = refl; sequence = refl; old = some_inj e q; name = refl })))

    own_this : old ≡ Some b → Acted s (own ∷ J) (λ (d : ℕ). false) L f b (join_from this (length f.points) t r name b s n c (access_point_at f b))
    unfolding join_from quietly joined with_associations
    own_this e = (inv_join v own a order fits row held ok new, nil)
      where
        a : AccessPoint
        a = joined s n (held_context s (access_point_at f b).associations) (access_point_at f b)

        row : sequence_of s a.associations ≡ Some n
        row = row_put (held_context s (access_point_at f b).associations)

        held : (k d p : ℕ) → Holds s k d p (access_point_at f b).moves → Holds s k d p a.moves
        held k d p x = x

        ok : All (MoveOk s (own ∷ J)) a.moves
        ok = all_map (move_grows (join_grows v own a order fits row held)) (v.moves b)

        new : Handed s L (set_point b a f) own
        new d q = inr (inr (λ m z. rw (some_inj (rw (some_inj q e) at z) (at_join v own a order fits row held)) (newer_irrefl n)))

    own_nowhere : ((o : ℕ) → old ≡ Some o → length f.points ≤ o) → Acted s (own ∷ J) (λ (d : ℕ). false) L f b (join_from nowhere (length f.points) t r name b s n c (access_point_at f b))
    unfolding join_from joined with_associations use_identifier
    own_nowhere far = (inv_join v own a order fits row held ok new, adds_all s (own ∷ J) _ b _ 0 (length f.points) (record { known = λ e. inl refl; message = λ e. tt }) refl)
      where
        a : AccessPoint
        a = use_identifier (joined s n (given c) (access_point_at f b))

        row : sequence_of s a.associations ≡ Some n
        row = row_put (given c)

        held : (k d p : ℕ) → Holds s k d p (access_point_at f b).moves → Holds s k d p a.moves
        held k d p x = x

        ok : All (MoveOk s (own ∷ J)) a.moves
        ok = all_map (move_grows (join_grows v own a order fits row held)) (v.moves b)

        new : Handed s L (set_point b a f) own
        new d q =
            inr (inr (λ m. point_set (λ (x : AccessPoint). sequence_of s x.associations ≡ Some m → newer_of n m ≡ false) f b d a (λ z. not_some (row_out s f d (far d q)) z)
            (λ x z. rw (some_inj z row) (newer_irrefl n))))

    pub acted_own : Acted s (own ∷ J) (λ (d : ℕ). false) L f b (join_from (origin_of (length f.points) b old) (length f.points) t r name b s n c (access_point_at f b))
    acted_own =
        by_origin (λ (x : Origin). Acted s (own ∷ J) (λ (d : ℕ). false) L f b (join_from x (length f.points) t r name b s n c (access_point_at f b))) (length f.points) b old
        (λ o e h l. own_another o e h) own_this own_nowhere

  -- a join of another station

  module _ (u : Station) (other : s ≢ u) where
    row_other : (x : Context) → sequence_of s (joined u n x (access_point_at f b)).associations ≡ row_at s f b
    unfolding joined with_associations association
    row_other x = sequence_associate_other s (association u n x) (access_point_at f b).associations other

    other_move : (o : ℕ) → MoveOk s J (new_move name u n o (access_point_at f b).next_identifier t r)
    unfolding new_move
    other_move o = record { known = λ q. absurd (other (sym q)); away = λ q. absurd (other (sym q)) }

    other_another : (o : ℕ) → Acted s J G L f b (join_from (another o) (length f.points) t r name b u n c (access_point_at f b))
    unfolding join_from with_moves use_identifier joined with_associations
    other_another o = (
      inv_point v b _
          (record {
            row = λ m e. sym (row_other (held_context u (access_point_at f b).associations)) ∙ e;
            moves = all_append (v.moves b) (cons (other_move o) nil);
            held = λ k d p x. inl (holds_left s k d p (access_point_at f b).moves _ x);
          }) (λ k x. row_other (held_context u (access_point_at f b).associations)),
      cons (notice_ok _ b _ (other_move o)) nil,
    )

    other_joined : (x : Context) → Shrinks s J L f b (joined u n x (access_point_at f b))
    unfolding joined with_associations
    other_joined x = record { row = λ m e. sym (row_other x) ∙ e; moves = v.moves b; held = λ k d p y. inl y }

    other_this : Acted s J G L f b (join_from this (length f.points) t r name b u n c (access_point_at f b))
    unfolding join_from quietly
    other_this = (inv_point v b _ (other_joined (held_context u (access_point_at f b).associations)) (λ k x. row_other (held_context u (access_point_at f b).associations)), nil)

    other_nowhere : Acted s J G L f b (join_from nowhere (length f.points) t r name b u n c (access_point_at f b))
    unfolding join_from use_identifier
    other_nowhere = (
      inv_point v b _
          (record { row = λ m e. sym (row_other (given c)) ∙ e; moves = unfold joined with_associations in v.moves b; held = λ k d p y. inl (unfold joined with_associations in y) })
          (λ k x. row_other (given c)),
      adds_all s J _ b _ 0 (length f.points) (record { known = λ e. absurd (other (sym e)); message = λ e. tt }) refl,
    )

    pub acted_other : Acted s J G L f b (join_from (origin_of (length f.points) b old) (length f.points) t r name b u n c (access_point_at f b))
    acted_other =
        by_origin (λ (x : Origin). Acted s J G L f b (join_from x (length f.points) t r name b u n c (access_point_at f b))) (length f.points) b old
        (λ o e h l. other_another o) (λ e. other_this) (λ h. other_nowhere)
