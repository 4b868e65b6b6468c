-- HELD and TABLES, where they are told.
use Rattle.std.specs.Prelude.{ℕ, List, ◌++◌, Option, None, Some}
use Rattle.script.specs.Text.{octets_of}
use Rattle.script.specs.Result.{field}

abbrev pub held_text : Option (ℕ × ℕ) → List ℕ
held_text None = octets_of " - -"
held_text (Some p) = field p.0 ++ field p.1
