-- Texts put into a lent buffer, which is otherwise as it came.
use Rattle.std.specs.Prelude.{ℕ, ◌+◌, List, ◌++◌, length, take, drop}
use Rattle.std.specs.Prelude.{Option}
use Rattle.lists.specs.Options.{case_option}

-- the buffer with a text in it from `at` on
abbrev pub over : ℕ → List ℕ → List ℕ → List ℕ
over at xs b = take at b ++ (xs ++ drop (at + length xs) b)

-- with a text at its front
abbrev pub front : List ℕ → List ℕ → List ℕ
front xs b = xs ++ drop (length xs) b

-- with a text at its front, where there is one
abbrev pub front_given : Option (List ℕ) → List ℕ → List ℕ
front_given o b = case_option o b (λ x. front x b)
