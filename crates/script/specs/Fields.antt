-- Document 01, "Floor rehearsal": numbers, stations and contexts, read from a field and written to one.
use Rattle.std.specs.Prelude.{ℕ, ◌+◌, ◌*◌, ◌-◌, ◌/◌, ◌%◌, Bool, true, false, cond, ◌&&◌, ◌||◌, not, ◌≡◌, refl, List, [], ◌∷◌, eqb, ltb, leb, length}
use Rattle.std.specs.Prelude.{Option, None, Some}
use Rattle.lists.specs.Places.{every}
use Rattle.machine.specs.Stations.{Station, same}
use Rattle.script.specs.Text.{octets_of}

-- "`-` for a field not given"
abbrev pub is_dash : List ℕ → Bool
is_dash f = same f (octets_of "-")

-- "Numbers are 0..65535 without leading zeros"

abbrev pub is_digit : ℕ → Bool
is_digit x = leb 48 x && leb x 57

-- the number that the digits say, after those that say v
unfoldable pub value_from : ℕ → List ℕ → ℕ
value_from v [] = v
value_from v (x ∷ xs) = value_from (10 * v + (x - 48)) xs

-- at least one octet, and no leading zero but in 0 itself
unfoldable pub is_plain : List ℕ → Bool
is_plain [] = false
is_plain (x ∷ []) = true
is_plain (x ∷ y ∷ xs) = not (eqb x 48)

unfoldable pub is_number : List ℕ → Bool
is_number f = is_plain f && (every is_digit f && leb (value_from 0 f) 65535)

unfoldable pub number_in : List ℕ → Option ℕ
number_in f = cond (is_number f) (Some (value_from 0 f)) None

-- "station is 12 lower-case hex digits, context an even run of them"

abbrev pub is_hex : ℕ → Bool
is_hex x = is_digit x || (leb 97 x && leb x 102)

abbrev pub hex_of : ℕ → ℕ
hex_of x = cond (is_digit x) (x - 48) (x - 87)

-- two digits to an octet
unfoldable pub octets_in : List ℕ → List ℕ
octets_in [] = []
octets_in (x ∷ []) = []
octets_in (x ∷ y ∷ xs) = (hex_of x * 16 + hex_of y) ∷ octets_in xs

unfoldable pub station_in : List ℕ → Option Station
station_in f = cond (eqb (length f) 12 && every is_hex f) (Some (octets_in f)) None

-- a run has a digit: an empty field is none
unfoldable pub context_in : List ℕ → Option (List ℕ)
context_in f = cond (ltb 0 (length f) && (eqb (length f % 2) 0 && every is_hex f)) (Some (octets_in f)) None

-- A number below 1000, as ANSWER, SENT, GIVENUP, HELD and TABLES are

unfoldable pub digit : ℕ → ℕ
digit d = 48 + d % 10

unfoldable pub decimal : ℕ → List ℕ
decimal n =
    cond (ltb n 10) (digit n ∷ [])
    (cond (ltb n 100) (digit (n / 10) ∷ digit n ∷ [])
    (digit (n / 100) ∷ digit (n / 10) ∷ digit n ∷ []))

-- examples

pub largest : number_in (octets_of "65535") ≡ Some 65535
unfolding number_in is_number is_plain value_from every
largest = refl

pub too_large : number_in (octets_of "65536") ≡ None
unfolding number_in is_number is_plain value_from every
too_large = refl

pub leading_zero : number_in (octets_of "01") ≡ None
unfolding number_in is_number is_plain value_from every
leading_zero = refl

pub zero_alone : number_in (octets_of "0") ≡ Some 0
unfolding number_in is_number is_plain value_from every
zero_alone = refl

pub no_digits : number_in (octets_of "") ≡ None
unfolding number_in is_number is_plain value_from every
no_digits = refl

pub a_station : station_in (octets_of "0200000000af") ≡ Some (2 ∷ 0 ∷ 0 ∷ 0 ∷ 0 ∷ 175 ∷ [])
unfolding station_in octets_in every
a_station = refl

pub upper_case : station_in (octets_of "0200000000AF") ≡ None
unfolding station_in octets_in every
upper_case = refl

pub odd_run : context_in (octets_of "abc") ≡ None
unfolding context_in octets_in every
odd_run = refl

pub no_run : context_in (octets_of "") ≡ None
unfolding context_in octets_in every
no_run = refl

pub three_digits : decimal 255 ≡ octets_of "255"
unfolding decimal digit
three_digits = refl
