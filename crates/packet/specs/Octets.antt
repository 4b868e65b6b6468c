-- "Multi-octet fields put the most significant octet first."
use Rattle.std.specs.Prelude.{◌≡◌, refl, ℕ, ◌+◌, ◌*◌, ◌/◌, ◌%◌, ◌<◌, List, [], ◌∷◌, get_or}

-- the number in the two octets at i
unfoldable pub be16 : List ℕ → ℕ → ℕ
be16 s i = get_or s i 0 * 256 + get_or s (i + 1) 0

-- a number below 65536 as two octets
abbrev pub two : ℕ → List ℕ
two n = n / 256 ∷ n % 256 ∷ []

pub high_first : (two 258 ≡ 1 ∷ 2 ∷ []) × (be16 (1 ∷ 2 ∷ []) 0 ≡ 258)
unfolding be16
high_first = (refl, refl)

-- each element is an octet
abbrev pub Octets : List ℕ → Type 0
Octets s = (i : ℕ) → get_or s i 0 < 256
