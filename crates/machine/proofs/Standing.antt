-- After every list of events: where a station stands.
-- Assumes nothing.
use Prim.Native.Nat.{ℕ, suc}
use mathlib.Core.Bool.{Bool, true, false, cond, ◌&&◌, not}
use mathlib.Core.Path.{◌≡◌, refl, sym, ap, subst, ◌∙◌}
use mathlib.Core.List.{List, [], ◌∷◌}
use mathlib.Core.Logic.{◌⊎◌, inl, inr, ◌≢◌}
use Rattle.std.specs.Prelude.{Option, None, Some, is_some}
use lib.Dec.{eqb}
use lib.ListN.{length}
use borrow.Author.Tests.{eqb-true, eqb-false}
use Rattle.lists.proofs.Bools.{by_cond}
use Rattle.lists.proofs.Choices.{by_bool, and_left, and_right, or_mono, not_both, false_unless, not_some, some_inj, is_none}
use Rattle.lists.specs.Places.{All, nil, cons}
use Rattle.sequence.specs.Distance.{newer_of}
use Rattle.machine.specs.Stations.{Station, same, is_group}
use Rattle.machine.specs.Associations.{sequence_of}
use Rattle.machine.specs.Moves.{Open}
use Rattle.machine.specs.AccessPoint.{new_point}
use Rattle.machine.specs.Network.{Network, new_network, access_point_at}
use Rattle.machine.specs.Events.{Event, join, leave, deliver, repeat, lose, tick, who, Formed, holds, step}
use Rattle.machine.specs.History.{Entry, World, after, run, begin, among, is_open, was_given_up}
use Rattle.machine.specs.Joins.{answers_of, Join, joins_with, joins_of, left}
use Rattle.machine.specs.Stronger.{is_move, move_among, move_is_open, move_given_up, next_from, OtherTables}
use Rattle.machine.specs.Claim.{InOrder, stands, Standing}
use Rattle.machine.proofs.Stations.{same_true}
use Rattle.machine.proofs.Limits.{Valid}
use Rattle.machine.proofs.Valid.{SetupIn, join_passed, new_point_lem, valid_begin, valid_after}
use Rattle.machine.proofs.Invariant.{latest, HandedTo, Handed, row_at, Inv}
use Rattle.machine.proofs.Openness.{Tracked, tracked, holds_open, open_own}
use Rattle.machine.proofs.Step.{order_before, step_keeps}
use Rattle.machine.proofs.Held.{answer_zero, stands_row, stands_group}

-- the invariant holds after a list

abbrev joins : Station → World → List Join
joins s w = joins_of s (answers_of w.log)

abbrev Kept : Station → World → Type 0
Kept s w = InOrder (joins s w) → Inv s (joins s w) (left s (answers_of w.log)) (move_given_up s w.log) w.network

answers_length : (log : List Entry) → length (answers_of log) ≡ length log
unfolding answers_of
answers_length [] = refl
answers_length (x ∷ xs) = ap suc (answers_length xs)

-- the joins after one more event
joins_after : (s : Station) (w : World) (e : Event) → joins s (after w e) ≡ joins_with s e (step w.network (length w.log) e).answer (length w.log) (joins s w)
unfolding after answers_of joins_of
joins_after s w e = rw (answers_length w.log)

after_keeps : {C : Type 0} {i : ℕ} (s : Station) (w : World) (e : Event) → Formed e → Valid C i w.network → Kept s w → Kept s (after w e)
after_keeps s w e z y k =
    rw (joins_after s w e)
    (λ h. unfold after answers_of left move_given_up in step_keeps (k (order_before s e _ _ (joins s w) h)) y (length w.log) e z h)

run_keeps : {C : Type 0} {i : ℕ} (s : Station) (w : World) (es : List Event) → All Formed es → Valid C i w.network → Kept s w → Kept s (run w es)
unfolding run
run_keeps s w [] nil y k = k
run_keeps s w (e ∷ es) (cons z zs) y k = run_keeps s (after w e) es zs (valid_after w e z y) (after_keeps s w e z y k)

begin_keeps : (s : Station) (n t r : ℕ) → Kept s (begin n t r)
unfolding begin answers_of joins_of new_network new_point sequence_of
begin_keeps s n t r h =
    record {
      rows = λ b m. rw (new_point_lem n t r b) (λ e. not_some refl e);
      stays = λ m b x. absurd x;
      gone = λ m b x. absurd x;
      air = nil;
      moves = λ b. rw (new_point_lem n t r b) nil;
      handed = nil;
    }

-- what the invariant says of another table

-- the association at another AP is that of its latest join, and the next join is newer and names that AP
between :
    (Q : Join → Type 0) (i m : ℕ) (j : Join) (js : List Join)
    → InOrder (j ∷ js) → All Q (j ∷ js) → i ≢ j.at → latest i (j ∷ js) ≡ Some m
    → (k : Join) × (next_from i j js ≡ Some k) × Q k × (k.old ≡ Some i) × (newer_of k.sequence m ≡ true)
unfolding latest next_from
between Q i m j [] h (cons q qs) d e =
    absurd (by_cond (λ (o : Option ℕ). o ≡ Some m → ⊥) (eqb i j.at) (λ x y. d (eqb-true i j.at x)) (λ x y. not_some refl y) e)
between Q i m j (x ∷ xs) h (cons q qs) d e =
    by_cond
    (λ (o : Option ℕ). o ≡ Some m → (k : Join) × (cond (eqb i x.at) (Some j) (next_from i x xs) ≡ Some k) × Q k × (k.old ≡ Some i) × (newer_of k.sequence m ≡ true)) (eqb i j.at)
    (λ y z. absurd (d (eqb-true i j.at y)))
    (λ y z. by_bool
    (λ (b : Bool). cond b (Some x.sequence) (latest i xs) ≡ Some m → (eqb i x.at ≡ b) → (k : Join) × (cond b (Some j) (next_from i x xs) ≡ Some k) × Q k × (k.old ≡ Some i) × (newer_of k.sequence m ≡ true)) (eqb i x.at)
    (λ c u c'. (j, refl, q, h.1 ∙ ap Some (sym (eqb-true i x.at c')), subst (λ (a : ℕ). newer_of j.sequence a ≡ true) (some_inj refl u) h.0.0))
    (λ c u c'. between Q i m x xs h.2 qs (eqb-false i x.at c') (rw c' u)) z refl) e

is_own : (s : Station) (o p : ℕ) (m : Open) → is_move s o p m ≡ true → same s m.move.station ≡ true
unfolding is_move
is_own s o p m e = and_left (same s m.move.station) (eqb o m.move.old) (and_left (same s m.move.station && eqb o m.move.old) (eqb p m.name) e)

among_own : (s : Station) (o p : ℕ) (ms : List Open) → move_among s o p ms ≡ true → among s ms ≡ true
unfolding move_among among
among_own s o p [] e = e
among_own s o p (m ∷ ms) e = or_mono _ _ _ _ (is_own s o p m) (among_own s o p ms) e

given_up_own : (s : Station) (o p : ℕ) (log : List Entry) → move_given_up s log o p ≡ true → was_given_up s log ≡ true
unfolding move_given_up was_given_up
given_up_own s o p [] e = e
given_up_own s o p (x ∷ xs) e = or_mono _ _ _ _ (among_own s o p x.outcome.happened.given_up) (given_up_own s o p xs) e

-- by the association

none_false : (s : Station) (f : Network) (i : ℕ) → row_at s f i ≡ None → holds s (access_point_at f i) ≡ false
unfolding holds
none_false s f i e = ap is_some e

some_true : (s : Station) (f : Network) (i m : ℕ) → row_at s f i ≡ Some m → holds s (access_point_at f i) ≡ true
unfolding holds
some_true s f i m e = ap is_some e

true_some : (s : Station) (f : Network) (i : ℕ) → holds s (access_point_at f i) ≡ true → (m : ℕ) × (row_at s f i ≡ Some m)
unfolding holds
true_some s f i e = go (row_at s f i) refl e
  where
    go : (o : Option ℕ) → row_at s f i ≡ o → is_some o ≡ true → (m : ℕ) × (row_at s f i ≡ Some m)
    go None q x = not_both x refl
    go (Some m) q x = (m, q)

-- a group address has no accepted join

abbrev Ungrouped : Station → World → Type 0
Ungrouped s w = is_group s ≡ true → joins s w ≡ []

module _ (s : Station) (f : Network) (p : ℕ) (js : List Join) (g : is_group s ≡ true) where
  group_refused : (b : ℕ) (t : Station) (n : ℕ) (old : Option ℕ) (c : List ℕ) → same s t && eqb (step f p (join b t n old c)).answer 0 ≡ false
  group_refused b t n old c =
      false_unless (same s t && eqb (step f p (join b t n old c)).answer 0)
      (λ q. not_both g
      (rw (same_true s t (and_left (same s t) _ q))
      (join_passed f b t n old c (answer_zero f p (join b t n old c) (eqb-true _ 0 (and_right (same s t) (eqb (step f p (join b t n old c)).answer 0) q)))).single))

  group_joins : (e : Event) → joins_with s e (step f p e).answer p js ≡ js
  unfolding joins_with
  group_joins (join b t n old c) = rw (group_refused b t n old c)
  group_joins (leave b t) = refl
  group_joins (deliver k) = refl
  group_joins (repeat k) = refl
  group_joins (lose k) = refl
  group_joins (tick b) = refl
  group_joins (who t) = refl

group_run : (s : Station) (w : World) (es : List Event) → Ungrouped s w → Ungrouped s (run w es)
unfolding run
group_run s w [] k = k
group_run s w (e ∷ es) k =
    group_run s (after w e) es (λ g. joins_after s w e ∙ group_joins s w.network (length w.log) (joins s w) g e ∙ k g)

group_begin : (s : Station) (n t r : ℕ) → Ungrouped s (begin n t r)
unfolding begin answers_of joins_of
group_begin s n t r g = refl

-- the claim, of one station

-- the move of the join k towards AP i is open or was given up
abbrev Unanswered : Station → World → ℕ → Join → Type 0
Unanswered s w i k = (move_is_open s w.log i k.place ≡ true) ⊎ (move_given_up s w.log i k.place ≡ true)

module _ (s : Station) (w : World) (tracks : Tracked w) (g : is_group s ≡ false) where
  unanswered : (i m : ℕ) (k : Join) → row_at s w.network i ≡ Some m → newer_of k.sequence m ≡ true
      → HandedTo s (move_given_up s w.log) (row_at s w.network) (access_point_at w.network k.at).moves k.sequence i k.place → Unanswered s w i k
  unanswered i m k q n (inl x) =
      inl (holds_open w tracks k.at s k.sequence i k.place x)
  unanswered i m k q n (inr (inl x)) = inr x
  unanswered i m k q n (inr (inr x)) = not_both n (x m q)

  others_at : (j : Join) (js : List Join) → InOrder (j ∷ js) → Inv s (j ∷ js) (left s (answers_of w.log)) (move_given_up s w.log) w.network
      → (i : ℕ) → i ≢ j.at → stands s w i ≡ true → (k : Join) × (next_from i j js ≡ Some k) × Unanswered s w i k
  others_at j js h v i d e =
      let q = true_some s w.network i (sym (stands_row s w i g) ∙ e) in
      let b = between (Handed s (move_given_up s w.log) w.network) i q.0 j js h v.handed d (v.rows i q.0 q.1) in
      (b.0, b.1, unanswered i q.0 b.0 q.1 b.4 (b.2 i b.3))

  others_by : (J : List Join) → InOrder J → Inv s J (left s (answers_of w.log)) (move_given_up s w.log) w.network → OtherTables s w J
  unfolding OtherTables
  others_by [] h v = tt
  others_by (j ∷ js) h v = others_at j js h v

  -- "no other table" follows from the stronger form
  no_others : (j : Join) (js : List Join) → OtherTables s w (j ∷ js) → is_open s w.log ≡ false → was_given_up s w.log ≡ false → (i : ℕ) → i ≢ j.at → stands s w i ≡ false
  unfolding OtherTables
  no_others j js o closed kept i d = false_unless (stands s w i) (λ e. go (o i d e))
    where
      either : (k : Join) → Unanswered s w i k → ⊥
      either k (inl x) = not_both (open_own s w.log i k.place x) closed
      either k (inr x) = not_both (given_up_own s i k.place w.log x) kept

      go : (k : Join) × (next_from i j js ≡ Some k) × Unanswered s w i k → ⊥
      go x = either x.0 x.2

  standing_by : (J : List Join) → InOrder J → Inv s J (left s (answers_of w.log)) (move_given_up s w.log) w.network → Standing s w J
  unfolding Standing latest
  standing_by [] h v = λ i. stands_row s w i g ∙ none_false s w.network i (is_none (row_at s w.network i) (λ m e. not_some refl (v.rows i m e)))
  standing_by (j ∷ js) h v = (
    by_bool (λ (b : Bool). left s (answers_of w.log) j.at ≡ b → stands s w j.at ≡ not b) (left s (answers_of w.log) j.at)
        (λ q e. stands_row s w j.at g ∙ none_false s w.network j.at (v.gone j.sequence j.at (refl, refl) e))
        (λ q e. stands_row s w j.at g ∙ some_true s w.network j.at j.sequence (v.stays j.sequence j.at (refl, refl) e)) refl,
    no_others j js (others_by (j ∷ js) h v),
  )

grouped_standing : (s : Station) (w : World) (J : List Join) → is_group s ≡ true → J ≡ [] → Standing s w J
unfolding Standing
grouped_standing s w J g e = subst (Standing s w) (sym e) (λ i. stands_group s w i g)

grouped_others : (s : Station) (w : World) (J : List Join) → J ≡ [] → OtherTables s w J
unfolding OtherTables
grouped_others s w J e = subst (OtherTables s w) (sym e) tt

module _ (n t r : ℕ) (setup : SetupIn n t r) (es : List Event) (formed : All Formed es) (s : Station) where
  abbrev ran : World
  ran = run (begin n t r) es

  kept : Kept s ran
  kept = run_keeps {C = Unit {0}} s (begin n t r) es formed (valid_begin n t r setup) (begin_keeps s n t r)

  ran_tracked : Tracked ran
  ran_tracked = tracked n t r setup es formed

  none_of_group : is_group s ≡ true → joins s ran ≡ []
  none_of_group g = group_run s (begin n t r) es (group_begin s n t r) g

  pub standing : InOrder (joins s ran) → Standing s ran (joins s ran)
  standing h =
      by_bool (λ (b : Bool). is_group s ≡ b → Standing s ran (joins s ran)) (is_group s)
      (λ q g. grouped_standing s ran (joins s ran) g (none_of_group g)) (λ q g. standing_by s ran ran_tracked g (joins s ran) h (kept h)) refl

  -- where it stands in another table, the very move of the next join is open or was given up
  pub other_tables : InOrder (joins s ran) → OtherTables s ran (joins s ran)
  other_tables h =
      by_bool (λ (b : Bool). is_group s ≡ b → OtherTables s ran (joins s ran)) (is_group s)
      (λ q g. grouped_others s ran (joins s ran) (none_of_group g)) (λ q g. others_by s ran ran_tracked g (joins s ran) h (kept h)) refl
