-- Laws of a list in slots, n of them used: what was put is there, what was there is put back, and an element added, taken out or placed.
-- Assumes nothing.
use Prim.Native.Nat.{ℕ, ◌+◌, ◌-◌, ◌<◌, ◌≤◌}
use mathlib.Core.Path.{◌≡◌, sym, ap, ◌∙◌}
use mathlib.Core.List.{List, [], ◌∷◌, ◌++◌}
use mathlib.Core.Logic.{inr}
use native.Mathlib.Omega.{arith}
use lib.ListN.{length, take, get_or, length-append, length-set}
use lib.Seq.{length-take-le}
use Rattle.lists.specs.Places.{without}
use Rattle.lists.specs.Search.{placed}
use Rattle.lists.proofs.Search.{length_without, get_or_used}
use Rattle.slots.specs.Lists.{over}
use Rattle.slots.proofs.Over.{over_take, take_over, over_over, placed_in, placed_last}

module _ {A : Type 0} (n : ℕ) (items : List A) (l : n ≤ length items) where
  pub length_used : length (take n items) ≡ n
  length_used = length-take-le n items l

  -- an element, whatever is read past the array's end
  pub element_at : (i : ℕ) (d d' : A) → i < n → get_or items i d' ≡ get_or (take n items) i d
  element_at i d d' h = sym (get_or_used n items i d d' h l)

  pub count_out : (i : ℕ) → i < n → n - 1 ≡ length (without i (take n items))
  count_out i h = omega (arith, length_without i (take n items) (omega (arith, length_used)), length_used)

  pub count_more : (x : A) → n + 1 ≡ length (take n items ++ (x ∷ []))
  count_more x = omega (arith, length-append (take n items) (x ∷ []), length_used)

  pub count_in : (i : ℕ) (x : A) → i < n → n ≡ length (placed i x (take n items))
  count_in i x h =
      sym (ap length (placed_in i x (take n items) (omega (arith, length_used))) ∙ length-set (take n items) i x ∙ length_used)

  pub count_last : (i : ℕ) (x : A) → i ≡ n → n + 1 ≡ length (placed i x (take n items))
  count_last i x e = count_more x ∙ ap length (sym (placed_last i x (take n items) (length_used ∙ sym e)))

-- a list made of an array and a count
module _ {A R : Type 0} (make : List A → ℕ → R) (b : A) (n : ℕ) (items : List A) where
  pub kept : n ≤ length items → make (over b n (take n items) items) (length (take n items)) ≡ make items n
  kept h = rw (over_take b n items h, length-take-le n items h)

  -- one more put down, in the place of those of t
  pub put_more : (xs : List A) (x : A)
      → make (over b (length xs) (take (length xs) (over b n xs items) ++ (x ∷ [])) (over b n xs items)) (length (take (length xs) (over b n xs items) ++ (x ∷ [])))
      ≡ make (over b n (xs ++ (x ∷ [])) items) (length (xs ++ (x ∷ [])))
  put_more xs x =
      let k : length xs ≤ length (xs ++ (x ∷ [])) = omega (arith, length-append xs (x ∷ [])) in
      ap (λ (l : List A). make (over b (length xs) (l ++ (x ∷ [])) (over b n xs items)) (length (l ++ (x ∷ [])))) (take_over b n xs items)
      ∙ ap (λ (l : List A). make l (length (xs ++ (x ∷ [])))) (over_over b n xs (xs ++ (x ∷ [])) items (inr k))
