-- Document 01, "Floor rehearsal": the octets of a text, its lines, and the fields of a line.
use Rattle.std.specs.Prelude.{ℕ, ◌+◌, ◌-◌, cond, ◌≡◌, refl, List, [], ◌∷◌, eqb, ltb, length, take, drop, codes}
use Prim.Native.String.{String}
use Rattle.lists.specs.Search.{index_by}

-- the octets of a text that stands in document 01
abbrev pub octets_of : String → List ℕ
octets_of s = codes s

-- x in front of the first part
unfoldable pub on_first : ℕ → List (List ℕ) → List (List ℕ)
on_first x [] = (x ∷ []) ∷ []
on_first x (p ∷ ps) = (x ∷ p) ∷ ps

-- the parts between the octets c; z is what the end makes of nothing
unfoldable pub split : ℕ → List (List ℕ) → List ℕ → List (List ℕ)
split c z [] = z
split c z (x ∷ xs) = cond (eqb x c) ([] ∷ split c z xs) (on_first x (split c z xs))

-- "lines .. before their 0A (the last 0A may be missing ..)": nothing after the last 0A is no line
abbrev pub lines : List ℕ → List (List ℕ)
lines s = split 10 [] s

-- "single blanks between fields": two blanks have an empty field between them, and a line that ends in a blank ends in one
abbrev pub fields : List ℕ → List (List ℕ)
fields l = split 32 ([] ∷ []) l

-- The same by places

-- the place of the first octet c from `at` on, or the end
unfoldable pub place_from : ℕ → ℕ → List ℕ → ℕ
place_from c at s = at + index_by (λ x. eqb x c) (drop at s)

-- the place after a line that ends at `end`: past its 0A, where it has one
unfoldable pub next_from : ℕ → List ℕ → ℕ
next_from end s = cond (ltb end (length s)) (end + 1) end

-- the octets from `at` up to `end`
abbrev pub part : ℕ → ℕ → List ℕ → List ℕ
part at end s = take (end - at) (drop at s)

-- examples

pub two_lines : lines (octets_of "a\n\nb\n") ≡ octets_of "a" ∷ octets_of "" ∷ octets_of "b" ∷ []
unfolding split on_first
two_lines = refl

pub last_without : lines (octets_of "a\nb") ≡ octets_of "a" ∷ octets_of "b" ∷ []
unfolding split on_first
last_without = refl

pub blanks : fields (octets_of "who  x ") ≡ octets_of "who" ∷ octets_of "" ∷ octets_of "x" ∷ octets_of "" ∷ []
unfolding split on_first
blanks = refl
