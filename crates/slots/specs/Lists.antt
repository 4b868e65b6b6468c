-- A list in an array of slots: it stands at the front, and a slot that nothing uses is blank.
use Rattle.std.specs.Prelude.{ℕ, ◌+◌, ◌-◌, ◌≡◌, refl, List, [], ◌∷◌, ◌++◌, length, drop, replicate}

-- xs written over the front of an array of which n slots were used: the slots that became free hold b, the others are as they were
unfoldable pub over : {A : Type 0} → A → ℕ → List A → List A → List A
over b n xs old = xs ++ (replicate (n - length xs) b ++ drop (length xs + (n - length xs)) old)

pub over_blanks : over {A = ℕ} 0 3 (7 ∷ []) (1 ∷ 2 ∷ 3 ∷ 4 ∷ []) ≡ 7 ∷ 0 ∷ 0 ∷ 4 ∷ []
unfolding over
over_blanks = refl
