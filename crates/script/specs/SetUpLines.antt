-- Document 01, "Floor rehearsal": the set-up that the first three lines of a script say.
use Rattle.std.specs.Prelude.{◌≡◌, refl, ℕ, cond, ◌&&◌, List, [], eqb, ltb, leb, length, get_or, drop}
use Rattle.std.specs.Prelude.{Option, None, Some}
use Rattle.lists.specs.Options.{case_option}
use Rattle.lists.specs.Places.{every}
use Rattle.machine.specs.Stations.{same}
use Rattle.machine.specs.Network.{setup_tests}
use Rattle.machine.specs.Valid.{valid_setup}
use Rattle.script.specs.Text.{octets_of, split, on_first, fields}
use Rattle.script.specs.Fields.{value_from, is_plain, is_number, number_in}

-- "A line of names, then values"

unfoldable pub set_up_names : List ℕ
set_up_names = octets_of "APS TIMEOUT RESENDS"

unfoldable pub event_names : List ℕ
event_names = octets_of "EVENT AT STATION SEQ OLD CONTEXT"

-- the AP count, T and R
pub record Values : Type 0 where
  pub aps : ℕ
  pub timeout : ℕ
  pub resends : ℕ

-- "14: APs 0 or above 8, T 0, or R above 7"
unfoldable pub limited : ℕ → ℕ → ℕ → Option Values
limited n t r = cond (valid_setup n t r) (Some (record { aps = n; timeout = t; resends = r })) None

unfoldable pub value_fields : List (List ℕ) → Option Values
value_fields fs =
    cond (eqb (length fs) 3)
    (case_option (number_in (get_or fs 0 [])) None (λ n. case_option (number_in (get_or fs 1 [])) None (λ t. case_option (number_in (get_or fs 2 [])) None (λ r. limited n t r))))
    None

-- "lines of at most 255 octets"
unfoldable pub values_in : List ℕ → Option Values
values_in l = cond (ltb 255 (length l)) None (value_fields (fields l))

-- "2 2 1" in document 01's order, and values that are out of the limits
pub three_values : values_in (octets_of "2 3 1") ≡ Some (record { aps = 2; timeout = 3; resends = 1 })
unfolding values_in value_fields limited valid_setup setup_tests number_in is_number is_plain value_from every split on_first
three_values = refl

pub nine_aps : values_in (octets_of "9 3 1") ≡ None
unfolding values_in value_fields limited valid_setup setup_tests number_in is_number is_plain value_from every split on_first
nine_aps = refl

-- "Bad setup or names lines": none, as where one of the three is missing
unfoldable pub set_up_in : List (List ℕ) → Option Values
set_up_in ls = cond (leb 3 (length ls) && (same (get_or ls 0 []) set_up_names && same (get_or ls 2 []) event_names)) (values_in (get_or ls 1 [])) None

-- the lines after them
unfoldable pub event_lines : List (List ℕ) → List (List ℕ)
event_lines ls = drop 3 ls
