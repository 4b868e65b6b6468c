-- An element of a list by its place, counted from 0; and a test, or a fact, of every element.
use Rattle.std.specs.Prelude.{ℕ, zero, suc, List, [], ◌∷◌, Bool, true, ◌&&◌}
use Rattle.std.specs.Prelude.{Option, None, Some}

-- the element at place k
unfoldable pub nth : {A : Type 0} → ℕ → List A → Option A
nth k [] = None
nth zero (x ∷ xs) = Some x
nth (suc k) (x ∷ xs) = nth k xs

-- the list with the element at place k taken out: the later ones move up
unfoldable pub without : {A : Type 0} → ℕ → List A → List A
without k [] = []
without zero (x ∷ xs) = xs
without (suc k) (x ∷ xs) = x ∷ without k xs

-- whether every element passes the test
unfoldable pub every : {A : Type 0} → (A → Bool) → List A → Bool
every p [] = true
every p (x ∷ xs) = p x && every p xs

-- P holds of every element
pub data All {A : Type 0} (P : A → Type 0) : List A → Type 0 where
  nil : All P []
  cons : {x : A} {xs : List A} → P x → All P xs → All P (x ∷ xs)
