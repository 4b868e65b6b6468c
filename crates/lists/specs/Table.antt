-- An ordered table of tests: each entry is a test and the number that it answers. The first test that passes decides.
use Rattle.std.specs.Prelude.{ℕ, List, [], ◌∷◌, Bool, true, false, cond, ◌≡◌, refl, eqb}

-- a test, and the number answered where it passes
abbrev pub Test : Type 0
Test = Bool × ℕ

-- the number of the first test that passes, 0 where none does
abbrev pub first_of : List Test → ℕ
first_of [] = 0
first_of (t ∷ ts) = cond t.0 t.1 (first_of ts)

-- whether a number answered says that no test passed
abbrev pub accepts : ℕ → Bool
accepts n = eqb n 0

pub first_decides : first_of ((false, 1) ∷ (true, 2) ∷ (true, 3) ∷ []) ≡ 2
first_decides = refl
