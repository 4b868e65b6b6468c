-- Lists whose first elements are named one by one.
-- Assumes nothing.
use Prim.Native.Nat.{ℕ, zero, suc, ◌-◌, ◌≤◌}
use mathlib.Core.Path.{◌≡◌, refl, sym}
use mathlib.Core.List.{List, [], ◌∷◌, ◌++◌}
use native.Mathlib.Omega.{arith}
use native.Mathlib.Nat.{not-suc-le-zero, le_of_suc-le-suc, suc_inj, suc-ne-zero}
use lib.ListN.{length, get_or, take, drop, length-drop}
use lib.Seq.{take_all}

-- P of every list that begins with k elements, which are named one by one
abbrev pub Front : ℕ → (List ℕ → Type 0) → Type 0
Front zero P = (l : List ℕ) → P l
Front (suc k) P = (a : ℕ) → Front k (λ l. P (a ∷ l))

-- so it holds of every list of at least k elements
pub front_ind : (k : ℕ) (P : List ℕ → Type 0) → Front k P → (l : List ℕ) → k ≤ length l → P l
front_ind zero P f l h = f l
front_ind (suc k) P f [] h = absurd (not-suc-le-zero h)
front_ind (suc k) P f (a ∷ l) h = front_ind k (λ l. P (a ∷ l)) (f a) l (le_of_suc-le-suc h)

-- P of every list of k elements, which are named one by one
abbrev pub Exact : ℕ → (List ℕ → Type 0) → Type 0
Exact zero P = P []
Exact (suc k) P = (a : ℕ) → Exact k (λ l. P (a ∷ l))

-- so it holds of every list of exactly k elements
pub exact_ind : (k : ℕ) (P : List ℕ → Type 0) → Exact k P → (l : List ℕ) → length l ≡ k → P l
exact_ind zero P f [] h = f
exact_ind zero P f (a ∷ l) h = absurd (suc-ne-zero _ h)
exact_ind (suc k) P f [] h = absurd (suc-ne-zero _ (sym h))
exact_ind (suc k) P f (a ∷ l) h = exact_ind k (λ l. P (a ∷ l)) (f a) l (suc_inj h)

-- six elements one by one, before t, are the list of six before t
pub six_cons : (l : List ℕ) → length l ≡ 6 → (t : List ℕ)
    → get_or l 0 0 ∷ get_or l 1 0 ∷ get_or l 2 0 ∷ get_or l 3 0 ∷ get_or l 4 0 ∷ get_or l 5 0 ∷ t ≡ l ++ t
six_cons l h t =
    exact_ind 6 (λ (l : List ℕ). get_or l 0 0 ∷ get_or l 1 0 ∷ get_or l 2 0 ∷ get_or l 3 0 ∷ get_or l 4 0 ∷ get_or l 5 0 ∷ t ≡ l ++ t) (λ a b c d e f. refl) l h

-- the part from a to the end
pub rest_from : (s : List ℕ) (a : ℕ) → take (length s - a) (drop a s) ≡ drop a s
rest_from s a = take_all (length s - a) (drop a s) (omega (arith, length-drop a s))
