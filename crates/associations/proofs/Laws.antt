-- What the machine says of a station's row, by the place that a search finds: it is there where the place is below the number of
-- rows. Two rows are never of one station where `distinct` is asked. Assumes nothing.
use Prim.Native.Nat.{ℕ, suc, ◌+◌, ◌-◌, ◌<◌, ◌≤◌}
use mathlib.Core.Path.{◌≡◌, refl, sym, ap, subst, ◌∙◌}
use mathlib.Core.Bool.{Bool, true, false, cond, ◌&&◌, not, false≢true}
use mathlib.Core.List.{List, [], ◌∷◌}
use Rattle.std.specs.Prelude.{None, Some, is_some}
use native.Mathlib.Numerals.{add-one}
use native.Mathlib.Omega.{arith}
use borrow.Author.Tests.{ltb-true, ltb-false, lt-ltb, le-ltb, not-true}
use lib.Dec.{ltb, eqb}
use lib.ListN.{length, get_or, length-set, length-append}
use Rattle.lists.specs.Options.{case_option}
use Rattle.lists.specs.Places.{without}
use Rattle.lists.specs.Search.{index_by, placed}
use Rattle.lists.proofs.Bools.{by_cond}
use Rattle.lists.proofs.Choices.{and_left, and_right, not_both}
use Rattle.lists.proofs.Search.{length_without}
use Rattle.sequence.specs.Distance.{newer_of}
use Rattle.structs.specs.declared.Association.{Association}
use Rattle.machine.specs.Stations.{same}
use Rattle.machine.proofs.Stations.{same_true}
use Rattle.machine.specs.Associations.{given, association, sequence_of, held_context, associate, dissociate, dissociate_older, dissociate_exactly, fill}
use Rattle.machine.specs.Valid.{distinct}
use Rattle.associations.specs.Rows.{is_of}
use Rattle.slots.proofs.Over.{placed_in, placed_last}

-- places and lengths

ltb_suc : (i n : ℕ) → ltb (suc i) (suc n) ≡ ltb i n
ltb_suc i n = go (ltb i n) refl
  where
    go : (b : Bool) → ltb i n ≡ b → ltb (suc i) (suc n) ≡ b
    go true e = lt-ltb (suc i) (suc n) (omega (arith, ltb-true i n e))
    go false e = le-ltb (suc i) (suc n) (omega (arith, ltb-false i n e))

module _ {A : Type 0} where
  pub without_less : (i : ℕ) (xs : List A) → i < length xs → length (without i xs) ≡ length xs - 1
  without_less i xs h = omega (arith, length_without i xs h)

  pub placed_same : (i : ℕ) (x : A) (xs : List A) → i < length xs → length (placed i x xs) ≡ length xs
  placed_same i x xs h = ap length (placed_in i x xs h) ∙ length-set xs i x

  pub placed_more : (i : ℕ) (x : A) (xs : List A) → length xs ≡ i → length (placed i x xs) ≡ length xs + 1
  placed_more i x xs e = ap length (placed_last i x xs e) ∙ length-append xs (x ∷ [])

  -- both in one
  pub length_placed : (i : ℕ) (x : A) (xs : List A) → i ≤ length xs → length (placed i x xs) ≡ cond (ltb i (length xs)) (length xs) (length xs + 1)
  length_placed i x xs h =
      by_cond (λ (n : ℕ). length (placed i x xs) ≡ n) (ltb i (length xs))
      (λ e. placed_same i x xs (ltb-true i (length xs) e))
      (λ e. placed_more i x xs (omega (arith, ltb-false i (length xs) e)))

  placed_suc : (i : ℕ) (x y : A) (xs : List A) → placed (suc i) x (y ∷ xs) ≡ y ∷ placed i x xs
  unfolding placed
  placed_suc i x y xs = rw (add-one (suc i), add-one i)

  cons_cond : (b : Bool) (x : A) (xs ys : List A) → x ∷ cond b xs ys ≡ cond b (x ∷ xs) (x ∷ ys)
  cons_cond true x xs ys = refl
  cons_cond false x xs ys = refl

  head_filled : (b : Bool) (x y : A) (xs : List A) → cond b x y ∷ xs ≡ cond b (placed 0 x (y ∷ xs)) (y ∷ xs)
  unfolding placed
  head_filled true x y xs = refl
  head_filled false x y xs = refl

  -- a choice by an option, where the option is a choice
  chosen : (b : Bool) (q : ℕ) (t : ℕ → Bool) (xs ys : List A) → case_option (cond b (Some q) None) ys (λ m. cond (t m) xs ys) ≡ cond (b && t q) xs ys
  chosen true q t xs ys = refl
  chosen false q t xs ys = refl

-- the station's row

-- Induction over a search: P of the rows, of whether the station's row is there, and of its place.
module _ (s : List ℕ) (P : List Association → Bool → ℕ → Type 0) where
  by_place : P [] false 0
      → ((r : Association) (rs : List Association) → same s r.station ≡ true → P (r ∷ rs) true 0)
      → ((r : Association) (rs : List Association) (b : Bool) (i : ℕ) → same s r.station ≡ false → P rs b i → P (r ∷ rs) b (suc i))
      → (rs : List Association) → P rs (ltb (index_by (is_of s) rs) (length rs)) (index_by (is_of s) rs)
  by_place z f g [] = z
  by_place z f g (r ∷ rs) = go (same s r.station) refl (by_place z f g rs)
    where
      go : (b : Bool) → same s r.station ≡ b → P rs (ltb (index_by (is_of s) rs) (length rs)) (index_by (is_of s) rs)
          → P (r ∷ rs) (ltb (cond b 0 (suc (index_by (is_of s) rs))) (suc (length rs))) (cond b 0 (suc (index_by (is_of s) rs)))
      go true e h = subst (λ (b : Bool). P (r ∷ rs) b 0) (sym (lt-ltb 0 (suc (length rs)) (omega arith))) (f r rs e)
      go false e h =
          subst (λ (b : Bool). P (r ∷ rs) b (suc (index_by (is_of s) rs))) (sym (ltb_suc (index_by (is_of s) rs) (length rs))) (g r rs _ _ e h)

module _ (s : List ℕ) where
  pub holds_at : (rs : List Association) → is_some (sequence_of s rs) ≡ ltb (index_by (is_of s) rs) (length rs)
  unfolding sequence_of
  holds_at = by_place s (λ rs b i. is_some (sequence_of s rs) ≡ b) refl (λ r rs e. rw e) (λ r rs b i e h. rw e h)

  pub sequence_at : (d : Association) (rs : List Association)
      → sequence_of s rs ≡ cond (ltb (index_by (is_of s) rs) (length rs)) (Some (get_or rs (index_by (is_of s) rs) d).sequence) None
  unfolding sequence_of
  sequence_at d =
      by_place s (λ rs b i. sequence_of s rs ≡ cond b (Some (get_or rs i d).sequence) None) refl (λ r rs e. rw e) (λ r rs b i e h. rw e h)

  pub context_at : (d : Association) (rs : List Association)
      → held_context s rs
      ≡ cond (ltb (index_by (is_of s) rs) (length rs)) (record { len = (get_or rs (index_by (is_of s) rs) d).context_len; octets = (get_or rs (index_by (is_of s) rs) d).context }) (given [])
  unfolding held_context
  context_at d =
      by_place s (λ rs b i. held_context s rs ≡ cond b (record { len = (get_or rs i d).context_len; octets = (get_or rs i d).context }) (given []))
      refl (λ r rs e. rw e) (λ r rs b i e h. rw e h)

  -- the row found is the station's
  pub station_at_lem : (d : Association) (rs : List Association) → index_by (is_of s) rs < length rs → (get_or rs (index_by (is_of s) rs) d).station ≡ s
  station_at_lem d rs h =
      by_place s (λ rs b i. b ≡ true → (get_or rs i d).station ≡ s)
      (λ z. absurd (false≢true z)) (λ r rs e z. sym (same_true s r.station e)) (λ r rs b i e h. h) rs (lt-ltb _ _ h)

  -- a station that has no row

  none_gone : (rs : List Association) → is_some (sequence_of s rs) ≡ false → dissociate s rs ≡ rs
  unfolding sequence_of dissociate
  none_gone [] h = refl
  none_gone (r ∷ rs) h = go (same s r.station) h (none_gone rs)
    where
      go : (b : Bool) → is_some (cond b (Some r.sequence) (sequence_of s rs)) ≡ false → (is_some (sequence_of s rs) ≡ false → dissociate s rs ≡ rs)
          → cond b (dissociate s rs) (r ∷ dissociate s rs) ≡ r ∷ rs
      go true h f = not_both refl h
      go false h f = ap (λ (l : List Association). r ∷ l) (f h)

  none_filled : (n : ℕ) (c : List ℕ) (rs : List Association) → is_some (sequence_of s rs) ≡ false → fill s n c rs ≡ rs
  unfolding sequence_of fill
  none_filled n c [] h = refl
  none_filled n c (r ∷ rs) h = go (same s r.station) h (none_filled n c rs)
    where
      go : (b : Bool) → is_some (cond b (Some r.sequence) (sequence_of s rs)) ≡ false → (is_some (sequence_of s rs) ≡ false → fill s n c rs ≡ rs)
          → cond (b && eqb n r.sequence) (association r.station r.sequence (given c)) r ∷ fill s n c rs ≡ r ∷ rs
      go true h f = not_both refl h
      go false h f = ap (λ (l : List Association). r ∷ l) (f h)

  -- where no two rows are of one station, no row after the station's is
  none_later : (r : Association) (rs : List Association) → same s r.station ≡ true → distinct (r ∷ rs) ≡ true → is_some (sequence_of s rs) ≡ false
  unfolding distinct
  none_later r rs e h = rw (same_true s r.station e) (not-true _ (and_left _ (distinct rs) h))

  distinct_later : (r : Association) (rs : List Association) → distinct (r ∷ rs) ≡ true → distinct rs ≡ true
  unfolding distinct
  distinct_later r rs h = and_right (not (is_some (sequence_of r.station rs))) (distinct rs) h

  -- past the end nothing is taken out
  pub dissociate_at : (rs : List Association) → distinct rs ≡ true → dissociate s rs ≡ without (index_by (is_of s) rs) rs
  unfolding dissociate without
  dissociate_at =
      by_place s (λ rs b i. distinct rs ≡ true → dissociate s rs ≡ without i rs)
      (λ h. refl)
      (λ r rs e h. rw e (none_gone rs (none_later r rs e h)))
      (λ r rs b i e f h. rw (e, f (distinct_later r rs h)))

  taken_out : (t : ℕ → Bool) (d : Association) (rs : List Association) → distinct rs ≡ true
      → case_option (sequence_of s rs) rs (λ m. cond (t m) (dissociate s rs) rs)
      ≡ cond (ltb (index_by (is_of s) rs) (length rs) && t (get_or rs (index_by (is_of s) rs) d).sequence) (without (index_by (is_of s) rs) rs) rs
  taken_out t d rs h = rw (sequence_at d rs, dissociate_at rs h) (chosen (ltb (index_by (is_of s) rs) (length rs)) _ t _ rs)

  pub older_at : (n : ℕ) (d : Association) (rs : List Association) → distinct rs ≡ true
      → dissociate_older s n rs
      ≡ cond (ltb (index_by (is_of s) rs) (length rs) && newer_of n (get_or rs (index_by (is_of s) rs) d).sequence) (without (index_by (is_of s) rs) rs) rs
  unfolding dissociate_older
  older_at n = taken_out (newer_of n)

  pub exactly_at : (n : ℕ) (d : Association) (rs : List Association) → distinct rs ≡ true
      → dissociate_exactly s n rs
      ≡ cond (ltb (index_by (is_of s) rs) (length rs) && eqb n (get_or rs (index_by (is_of s) rs) d).sequence) (without (index_by (is_of s) rs) rs) rs
  unfolding dissociate_exactly
  exactly_at n = taken_out (eqb n)

  pub fill_at : (n : ℕ) (c : List ℕ) (d : Association) (rs : List Association) → distinct rs ≡ true
      → fill s n c rs
      ≡ cond (ltb (index_by (is_of s) rs) (length rs) && eqb n (get_or rs (index_by (is_of s) rs) d).sequence)
      (placed (index_by (is_of s) rs) (association (get_or rs (index_by (is_of s) rs) d).station (get_or rs (index_by (is_of s) rs) d).sequence (given c)) rs)
      rs
  unfolding fill
  fill_at n c d =
      by_place s
      (λ rs b i. distinct rs ≡ true → fill s n c rs ≡ cond (b && eqb n (get_or rs i d).sequence) (placed i (association (get_or rs i d).station (get_or rs i d).sequence (given c)) rs) rs)
      (λ h. refl)
      (λ r rs e h. rw (e, none_filled n c rs (none_later r rs e h)) (head_filled (eqb n r.sequence) _ r rs))
      (λ r rs b i e f h. rw (e, placed_suc, f (distinct_later r rs h)) (cons_cond (b && eqb n (get_or rs i d).sequence) r _ rs))

-- the row's own station is looked for
pub associate_at : (x : Association) (rs : List Association) → associate x rs ≡ placed (index_by (is_of x.station) rs) x rs
unfolding associate placed
associate_at x =
    by_place x.station (λ rs b i. associate x rs ≡ placed i x rs)
    refl (λ r rs e. rw e) (λ r rs b i e h. rw (e, placed_suc i x r rs, h))
