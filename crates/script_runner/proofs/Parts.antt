-- The parts of a script that end with an 0A each, and its lines.
-- Assumes nothing.
use Prim.Native.Nat.{ℕ, zero, suc, ◌+◌, ◌-◌, ◌<◌, ◌≤◌}
use mathlib.Core.Path.{◌≡◌, refl, sym, ap, ◌∙◌}
use mathlib.Core.Bool.{true, false}
use mathlib.Core.List.{List, [], ◌∷◌, ◌++◌}
use mathlib.Core.Logic.{inl, inr}
use native.Mathlib.Omega.{arith}
use native.Mathlib.Nat.{not-suc-le-zero, le_of_suc-le-suc}
use borrow.Author.Tests.{eqb-true}
use denote.Ref.{Bor}
use lib.Dec.{eqb}
use lib.ListN.{length, take, drop, get_or, length-append}
use lib.Seq.{drop_at, take-suc, take_all, take-append_seam, get_or-append_seam}
use Rattle.std.specs.Prelude.{min, Option, None, Some, unwrap_or, MatchOption, nat_eq}
use Rattle.std.specs.List.{IsFirstMatchOrLen}
use Rattle.std.specs.Cmp.Lexicographic.{pointwise}
use Rattle.std.proofs.lemmas.Bool.Decides.{Decides-eqb}
use Rattle.std.proofs.lemmas.Slice.Eq.{strip_suffix_is}
use Rattle.lists.proofs.Choices.{not_both}
use Rattle.slots.proofs.Over.{le_or}
use Rattle.script.specs.Text.{on_first, split, lines}

-- The first line, up to the first 0A, and a last line that has none

line_hit : (xs : List ℕ) (i : ℕ) → i < length xs → ((k d : ℕ) → 0 ≤ k → k < i → eqb (get_or xs k d) 10 ≡ false) → ((d : ℕ) → eqb (get_or xs i d) 10 ≡ true)
    → lines xs ≡ take i xs ∷ lines (drop (suc i) xs)
unfolding split on_first
line_hit [] i l f g = absurd (not-suc-le-zero l)
line_hit (x ∷ xs) zero l f g = rw (g 0)
line_hit (x ∷ xs) (suc i) l f g =
    rw (f 0 0 (omega arith) (omega arith)) (ap (on_first x) (line_hit xs i (le_of_suc-le-suc l) (λ k d a b. f (suc k) d (omega arith) (omega arith)) g))

line_miss : (xs : List ℕ) → 0 < length xs → ((k d : ℕ) → 0 ≤ k → k < length xs → eqb (get_or xs k d) 10 ≡ false) → lines xs ≡ xs ∷ []
unfolding split on_first
line_miss [] l f = absurd (not-suc-le-zero l)
line_miss (x ∷ []) l f = rw (f 0 0 (omega arith) (omega arith))
line_miss (x ∷ (y ∷ ys)) l f =
    rw (f 0 0 (omega arith) (omega arith)) (ap (on_first x) (line_miss (y ∷ ys) (omega arith) (λ k d a b. f (suc k) d (omega arith) (omega arith))))

-- A part without its 0A

module _ (r : Option (Bor (List ℕ))) (p : Bor (List ℕ)) where
  strip_hit : (m : List ℕ) → MatchOption r ((front : List ℕ) → p.now ≡ front ++ (10 ∷ []) → ⊥) (λ x. p.now ≡ x.now ++ (10 ∷ [])) → p.now ≡ m ++ (10 ∷ []) → (unwrap_or r p).now ≡ m
  strip_hit m = go r
    where
      go : (r : Option (Bor (List ℕ))) → MatchOption r ((front : List ℕ) → p.now ≡ front ++ (10 ∷ []) → ⊥) (λ x. p.now ≡ x.now ++ (10 ∷ [])) → p.now ≡ m ++ (10 ∷ []) → (unwrap_or r p).now ≡ m
      go None h e = absurd (h m e)
      go (Some x) h e =
          let q : x.now ++ (10 ∷ []) ≡ m ++ (10 ∷ []) = sym h ∙ e in
          let n : length x.now ≡ length m = omega (arith, ap length q, length-append x.now (10 ∷ []), length-append m (10 ∷ [])) in
          sym (take-append_seam x.now (10 ∷ [])) ∙ ap (take (length x.now)) q ∙ ap (λ (k : ℕ). take k (m ++ (10 ∷ []))) n ∙ take-append_seam m (10 ∷ [])

  strip_miss : MatchOption r ((front : List ℕ) → p.now ≡ front ++ (10 ∷ []) → ⊥) (λ x. p.now ≡ x.now ++ (10 ∷ [])) → ((k d : ℕ) → 0 ≤ k → k < length p.now → eqb (get_or p.now k d) 10 ≡ false) → (unwrap_or r p).now ≡ p.now
  strip_miss = go r
    where
      go : (r : Option (Bor (List ℕ))) → MatchOption r ((front : List ℕ) → p.now ≡ front ++ (10 ∷ []) → ⊥) (λ x. p.now ≡ x.now ++ (10 ∷ [])) → ((k d : ℕ) → 0 ≤ k → k < length p.now → eqb (get_or p.now k d) 10 ≡ false) → (unwrap_or r p).now ≡ p.now
      go None h f = refl
      go (Some x) h f =
          let n : length x.now < length p.now = omega (arith, ap length h, length-append x.now (10 ∷ [])) in
          let t : get_or p.now (length x.now) 0 ≡ 10 = ap (λ (l : List ℕ). get_or l (length x.now) 0) h ∙ get_or-append_seam x.now 10 [] 0 in
          not_both (sym (f (length x.now) 0 (omega arith) n) ∙ ap (λ (y : ℕ). eqb y 10) t) refl

-- what std's `split_inclusive` and `strip_suffix` give is the next line of what is left, and what is left after it
pub next_line_is : (rest later : List ℕ) (i : ℕ) (r : Option (Bor (List ℕ))) (p : Bor (List ℕ))
    → rest ≡ p.now ++ later → length p.now ≡ min (i + 1) (length rest) → IsFirstMatchOrLen (λ x. eqb x 10) rest i → 0 < length rest
    → MatchOption r (pointwise nat_eq (drop (length p.now - 1) p.now) (10 ∷ []) ≡ false) (λ x. (pointwise nat_eq (drop (length p.now - 1) p.now) (10 ∷ []) ≡ true) × (x.now ≡ take (length p.now - 1) p.now) × (length x.now + 1 ≡ length p.now))
    → lines rest ≡ (unwrap_or r p).now ∷ lines later
unfolding split
next_line_is rest later i r p e n f g s =
    let t = strip_suffix_is Decides-eqb p.now (10 ∷ []) r s in
    let a : p.now ≡ take (length p.now) rest = sym (ap (take (length p.now)) e ∙ take-append_seam p.now later) in
    elim (le_or (length rest) i) [
      | inl l ↦
          let m : length p.now ≡ length rest = omega (arith, n) in
          let q : p.now ≡ rest = a ∙ take_all (length p.now) rest (omega arith) in
          let z : later ≡ [] = none later (omega (arith, ap length e, length-append p.now later)) in
          let h : (k d : ℕ) → 0 ≤ k → k < length p.now → eqb (get_or p.now k d) 10 ≡ false = λ k d u v. ap (λ (xs : List ℕ). eqb (get_or xs k d) 10) q ∙ f.0 k d u (omega arith) in
          line_miss rest g (λ k d u v. f.0 k d u (omega arith))
          ∙ ap (λ (l : List ℕ). l ∷ []) (sym (strip_miss r p t h ∙ q))
          ∙ ap (λ (xs : List ℕ). (unwrap_or r p).now ∷ lines xs) (sym z)
      | inr l ↦
          let m : length p.now ≡ suc i = omega (arith, n) in
          let c : get_or rest i 0 ≡ 10 = eqb-true _ 10 (f.1 l 0) in
          let q : p.now ≡ take i rest ++ (10 ∷ []) = a ∙ ap (λ (k : ℕ). take k rest) m ∙ take-suc rest i 0 l ∙ ap (λ (x : ℕ). take i rest ++ (x ∷ [])) c in
          let z : later ≡ drop (suc i) rest = sym (ap (drop (suc i)) e ∙ drop_at p.now later (suc i) m) in
          line_hit rest i l f.0 (λ d. f.1 l d)
          ∙ ap (λ (l : List ℕ). l ∷ lines (drop (suc i) rest)) (sym (strip_hit r p (take i rest) t q))
          ∙ ap (λ (xs : List ℕ). (unwrap_or r p).now ∷ lines xs) (sym z)
    ]
  where
    none : (xs : List ℕ) → length xs ≡ 0 → xs ≡ []
    none [] h = refl
    none (x ∷ xs) h = absurd (omega arith)
