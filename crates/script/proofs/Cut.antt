-- A text cut by places: its next line, and the next field of a line, from a place on.
-- Assumes nothing.
use Prim.Native.Nat.{ℕ, suc, ◌+◌, ◌-◌, ◌<◌, ◌≤◌}
use mathlib.Core.Path.{◌≡◌, refl, sym, ap, ◌∙◌}
use mathlib.Core.Bool.{Bool, true, false, cond}
use mathlib.Core.List.{List, [], ◌∷◌}
use native.Mathlib.Nat.{not-suc-le-zero, le_of_suc-le-suc}
use native.Mathlib.Omega.{arith}
use borrow.Author.Tests.{ltb-true, ltb-false}
use lib.Dec.{eqb, ltb}
use lib.ListN.{length, take, drop, length-drop, drop_of_length-le}
use lib.Seq.{take_all, drop-drop}
use Rattle.lists.specs.Search.{index_by}
use Rattle.lists.proofs.Bools.{by_cond}
use Rattle.script.specs.Text.{on_first, split, lines, fields, place_from, next_from, part}

-- the place of the first c
abbrev first : ℕ → List ℕ → ℕ
first c xs = index_by (λ x. eqb x c) xs

first_within : (c : ℕ) (xs : List ℕ) → first c xs ≤ length xs
first_within c [] = omega arith
first_within c (x ∷ xs) = go (eqb x c) (first_within c xs)
  where
    go : (b : Bool) → first c xs ≤ length xs → cond b 0 (suc (first c xs)) ≤ suc (length xs)
    go true h = omega arith
    go false h = omega arith

-- one octet in front of what is split already
hit_on : (c : ℕ) (z : List (List ℕ)) (x : ℕ) (xs : List ℕ) (i : ℕ) (r : List (List ℕ)) → r ≡ split c z xs
    → (i < length xs → r ≡ take i xs ∷ split c z (drop (suc i) xs)) → (b : Bool) → cond b 0 (suc i) < suc (length xs)
    → cond b ([] ∷ r) (on_first x r) ≡ take (cond b 0 (suc i)) (x ∷ xs) ∷ split c z (drop (suc (cond b 0 (suc i))) (x ∷ xs))
unfolding on_first
hit_on c z x xs i r e f true h = rw e
hit_on c z x xs i r e f false h = rw (f (le_of_suc-le-suc h))

-- What both splits share. With a c: the part before it, and what is split after it
split_hit : (c : ℕ) (z : List (List ℕ)) (xs : List ℕ) → first c xs < length xs → split c z xs ≡ take (first c xs) xs ∷ split c z (drop (suc (first c xs)) xs)
unfolding split
split_hit c z [] h = absurd (not-suc-le-zero h)
split_hit c z (x ∷ xs) h = hit_on c z x xs (first c xs) (split c z xs) refl (split_hit c z xs) (eqb x c) h

-- all of it in front of the first part
unfoldable on_all : List ℕ → List (List ℕ) → List (List ℕ)
on_all [] z = z
on_all (x ∷ xs) z = on_first x (on_all xs z)

-- with none: all of it, in front of what the end makes of nothing
miss_on : (x : ℕ) (i n : ℕ) (r q : List (List ℕ)) → (n ≤ i → r ≡ q) → (b : Bool) → suc n ≤ cond b 0 (suc i) → cond b ([] ∷ r) (on_first x r) ≡ on_first x q
miss_on x i n r q f true h = absurd (not-suc-le-zero h)
miss_on x i n r q f false h = rw (f (le_of_suc-le-suc h))

split_miss : (c : ℕ) (z : List (List ℕ)) (xs : List ℕ) → length xs ≤ first c xs → split c z xs ≡ on_all xs z
unfolding split on_all
split_miss c z [] h = refl
split_miss c z (x ∷ xs) h = miss_on x (first c xs) (length xs) (split c z xs) (on_all xs z) (split_miss c z xs) (eqb x c) h

on_field : (xs : List ℕ) → on_all xs ([] ∷ []) ≡ xs ∷ []
unfolding on_all on_first
on_field [] = refl
on_field (x ∷ xs) = rw (on_field xs)

on_line : (xs : List ℕ) → 0 < length xs → on_all xs [] ≡ xs ∷ []
unfolding on_all on_first
on_line [] h = absurd (not-suc-le-zero h)
on_line (x ∷ []) h = refl
on_line (x ∷ y ∷ xs) h = rw (on_line (y ∷ xs) (omega arith))

-- By places

pub place_within : (c at : ℕ) (s : List ℕ) → at ≤ length s → (at ≤ place_from c at s) × (place_from c at s ≤ length s)
unfolding place_from
place_within c at s h = (omega arith, omega (arith, first_within c (drop at s), length-drop at s))

part_from : (at i : ℕ) (s : List ℕ) → part at (at + i) s ≡ take i (drop at s)
part_from at i s = let e : at + i - at ≡ i = omega arith in rw e

-- a split from a place on: up to the next c, which is there
pub split_cut : (c : ℕ) (z : List (List ℕ)) (at : ℕ) (s : List ℕ) → place_from c at s < length s
    → split c z (drop at s) ≡ part at (place_from c at s) s ∷ split c z (drop (place_from c at s + 1) s)
unfolding place_from
split_cut c z at s h =
    let k : first c (drop at s) < length (drop at s) = omega (arith, length-drop at s) in
    let n : at + suc (first c (drop at s)) ≡ at + first c (drop at s) + 1 = omega arith in
    split_hit c z (drop at s) k ∙ rw (drop-drop, n, part_from at (first c (drop at s)) s)

-- and where none is: all that is left, in front of what the end makes of nothing
split_end : (c : ℕ) (z : List (List ℕ)) (at : ℕ) (s : List ℕ) → at ≤ length s → length s ≤ place_from c at s
    → (part at (place_from c at s) s ≡ drop at s) × (split c z (drop at s) ≡ on_all (drop at s) z)
unfolding place_from
split_end c z at s l h =
    let k : length (drop at s) ≤ first c (drop at s) = omega (arith, length-drop at s) in
    (part_from at (first c (drop at s)) s ∙ take_all (first c (drop at s)) (drop at s) k, split_miss c z (drop at s) k)

module _ (at : ℕ) (s : List ℕ) where
  -- the next line, and the lines after it
  pub lines_cut : at < length s → lines (drop at s) ≡ part at (place_from 10 at s) s ∷ lines (drop (next_from (place_from 10 at s) s) s)
  unfolding split next_from
  lines_cut h =
      by_cond (λ (n : ℕ). lines (drop at s) ≡ part at (place_from 10 at s) s ∷ lines (drop n s)) (ltb (place_from 10 at s) (length s))
      (λ e. split_cut 10 [] at s (ltb-true (place_from 10 at s) (length s) e))
      (λ e.
      let k = ltb-false (place_from 10 at s) (length s) e in
      let x = split_end 10 [] at s (omega arith) k in
      x.1 ∙ on_line (drop at s) (omega (arith, length-drop at s)) ∙ rw (x.0, drop_of_length-le s k))

  pub next_within : at < length s → (at < next_from (place_from 10 at s) s) × (next_from (place_from 10 at s) s ≤ length s)
  unfolding next_from
  next_within h =
      let w = place_within 10 at s (omega arith) in
      by_cond (λ (n : ℕ). (at < n) × (n ≤ length s)) (ltb (place_from 10 at s) (length s))
      (λ e. let k = ltb-true (place_from 10 at s) (length s) e in (omega arith, omega arith))
      (λ e. let k = ltb-false (place_from 10 at s) (length s) e in (omega arith, omega arith))

  pub lines_end : length s ≤ at → lines (drop at s) ≡ []
  unfolding split
  lines_end h = rw (drop_of_length-le s h)

  -- a field before a blank, and the fields after it
  pub fields_cut : place_from 32 at s < length s → fields (drop at s) ≡ part at (place_from 32 at s) s ∷ fields (drop (place_from 32 at s + 1) s)
  fields_cut h = split_cut 32 ([] ∷ []) at s h

  -- the last field
  pub fields_last : at ≤ length s → place_from 32 at s ≡ length s → fields (drop at s) ≡ part at (place_from 32 at s) s ∷ []
  fields_last l h =
      let e = split_end 32 ([] ∷ []) at s l (omega arith) in
      e.1 ∙ on_field (drop at s) ∙ ap (λ (p : List ℕ). p ∷ []) (sym e.0)
