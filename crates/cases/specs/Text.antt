-- What stands for octets in a line of output.
use Rattle.std.specs.Prelude.{ℕ, List, [], ◌∷◌, ◌/◌, ◌%◌, false}
use Rattle.std.specs.List.{flat_map}
use Rattle.std.specs.Fmt.{digit_glyph}

-- Two hex digits with small letters.
abbrev pub octet_text : ℕ → List ℕ
octet_text x = digit_glyph false (x / 16) ∷ digit_glyph false (x % 16) ∷ []

-- The octets' digits in order, and `-`, the character 45, where there is no octet.
abbrev pub hex_text : List ℕ → List ℕ
hex_text [] = 45 ∷ []
hex_text (x ∷ xs) = flat_map octet_text (x ∷ xs)
