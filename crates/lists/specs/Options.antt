-- Nothing, or a value: choices by cases.
use Rattle.std.specs.Prelude.{Option, None, Some}

-- b where there is nothing, f of the value where there is one
abbrev pub case_option : {A B : Type 0} → Option A → B → (A → B) → B
case_option None b f = b
case_option (Some a) b f = f a
