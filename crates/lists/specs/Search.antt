-- The first element of a list that passes a test, and an element taken out step by step.
use Rattle.std.specs.Prelude.{ℕ, suc, ◌+◌, Bool, cond, List, [], ◌∷◌, ◌++◌, take, drop}
use Rattle.lists.specs.Places.{without}

-- the place of the first element that passes the test, or the length where none does
abbrev pub index_by : {A : Type 0} → (A → Bool) → List A → ℕ
index_by p [] = 0
index_by p (x ∷ xs) = cond (p x) 0 (suc (index_by p xs))

-- the list with x at place i in the place of what stands there, or last where i is the length
unfoldable pub placed : {A : Type 0} → ℕ → A → List A → List A
placed i x xs = take i xs ++ (x ∷ drop (i + 1) xs)

-- the list while its element i is taken out: the places from i up to k have what stood after them
unfoldable pub shifted : {A : Type 0} → ℕ → ℕ → List A → List A
shifted i k xs = take k (without i xs) ++ drop k xs
