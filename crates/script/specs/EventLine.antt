-- Document 01, "Floor rehearsal": the event that a line says, or none where the line is unreadable.
use Rattle.std.specs.Prelude.{ℕ, Bool, true, false, cond, ◌≡◌, refl, List, [], ◌∷◌, eqb, ltb, length, get_or, replicate}
use Rattle.std.specs.Prelude.{Option, None, Some}
use Rattle.lists.specs.Options.{case_option}
use Rattle.lists.specs.Places.{every}
use Rattle.machine.specs.Stations.{Station, same}
use Rattle.machine.specs.Events.{Event, join, tick}
use Rattle.structs.specs.declared.Kind.{Kind}
use Rattle.structs.specs.declared.Kind.TheVariants.{Join, Leave, Deliver, Repeat, Lose, Tick, Who}
use Rattle.events.specs.Event.{event_as}
use Rattle.script.specs.Text.{octets_of, split, on_first, fields}
use Rattle.script.specs.Fields.{is_dash, value_from, is_plain, is_number, number_in, octets_in, station_in, context_in}

-- EVENT

abbrev pub name_of : Kind → List ℕ
name_of Join = octets_of "join"
name_of Leave = octets_of "leave"
name_of Deliver = octets_of "deliver"
name_of Repeat = octets_of "repeat"
name_of Lose = octets_of "lose"
name_of Tick = octets_of "tick"
name_of Who = octets_of "who"

-- the first of these that has the name f
unfoldable pub named_in : List Kind → List ℕ → Option Kind
named_in [] f = None
named_in (k ∷ ks) f = cond (same f (name_of k)) (Some k) (named_in ks f)

unfoldable pub kind_in : List ℕ → Option Kind
kind_in f = named_in (Join ∷ Leave ∷ Deliver ∷ Repeat ∷ Lose ∷ Tick ∷ Who ∷ []) f

-- Which fields an event has. "fields an event lacks must be `-`"

-- "AT is the AP, or the packet number for deliver, repeat, lose"
abbrev pub has_at : Kind → Bool
has_at Join = true
has_at Leave = true
has_at Deliver = true
has_at Repeat = true
has_at Lose = true
has_at Tick = true
has_at Who = false

-- STATION
abbrev pub has_station : Kind → Bool
has_station Join = true
has_station Leave = true
has_station Deliver = false
has_station Repeat = false
has_station Lose = false
has_station Tick = false
has_station Who = true

-- SEQ, OLD and CONTEXT
abbrev pub is_join : Kind → Bool
is_join Join = true
is_join Leave = false
is_join Deliver = false
is_join Repeat = false
is_join Lose = false
is_join Tick = false
is_join Who = false

-- What a field says, of an event that has it or lacks it

unfoldable pub number_field : Bool → List ℕ → Option ℕ
number_field true f = number_in f
number_field false f = cond (is_dash f) (Some 0) None

unfoldable pub station_field : Bool → List ℕ → Option Station
station_field true f = station_in f
station_field false f = cond (is_dash f) (Some (replicate 6 0)) None

-- "Only OLD and CONTEXT of a join may be missing"
unfoldable pub old_field : Bool → List ℕ → Option (Option ℕ)
old_field has f = cond (is_dash f) (Some None) (cond has (case_option (number_in f) None (λ n. Some (Some n))) None)

unfoldable pub context_field : Bool → List ℕ → Option (List ℕ)
context_field has f = cond (is_dash f) (Some []) (cond has (context_in f) None)

-- EVENT AT STATION SEQ OLD CONTEXT: what a line says. A field that the event lacks counts as 0, as zeros, as none, or as empty
pub record Said : Type 0 where
  pub kind : Kind
  pub at : ℕ
  pub station : Station
  pub sequence : ℕ
  pub old : Option ℕ
  pub context : List ℕ

unfoldable pub said_with : Kind → List ℕ → List ℕ → List ℕ → List ℕ → List ℕ → Option Said
said_with k at s n o c =
    case_option (number_field (has_at k) at) None (λ a.
    case_option (station_field (has_station k) s) None (λ t.
    case_option (number_field (is_join k) n) None (λ m.
    case_option (old_field (is_join k) o) None (λ b.
    case_option (context_field (is_join k) c) None (λ x.
    Some (record { kind = k; at = a; station = t; sequence = m; old = b; context = x }))))))

unfoldable pub said_fields : List (List ℕ) → Option Said
said_fields fs =
    cond (eqb (length fs) 6)
    (case_option (kind_in (get_or fs 0 [])) None (λ k. said_with k (get_or fs 1 []) (get_or fs 2 []) (get_or fs 3 []) (get_or fs 4 []) (get_or fs 5 [])))
    None

-- "lines of at most 255 octets"; "a longer line is one unreadable line"
unfoldable pub said_of : List ℕ → Option Said
said_of l = cond (ltb 255 (length l)) None (said_fields (fields l))

-- the event that it says
unfoldable pub event_said : Said → Event
event_said x = event_as x.kind x.at x.station x.sequence x.old x.context

unfoldable pub event_in : List ℕ → Option Event
event_in l = case_option (said_of l) None (λ x. Some (event_said x))

-- examples

pub a_tick : event_in (octets_of "tick 1 - - - -") ≡ Some (tick 1)
unfolding event_in event_said said_of said_fields said_with kind_in named_in number_field station_field old_field context_field number_in is_number is_plain value_from station_in octets_in context_in every same split on_first
a_tick = refl

pub a_join : event_in (octets_of "join 1 020000000001 11 0 -") ≡ Some (join 1 (2 ∷ 0 ∷ 0 ∷ 0 ∷ 0 ∷ 1 ∷ []) 11 (Some 0) [])
unfolding event_in event_said said_of said_fields said_with kind_in named_in number_field station_field old_field context_field number_in is_number is_plain value_from station_in octets_in context_in every same split on_first
a_join = refl

-- a who has no AT
pub who_at : event_in (octets_of "who 0 020000000001 - - -") ≡ None
unfolding event_in event_said said_of said_fields said_with kind_in named_in number_field station_field old_field context_field number_in is_number is_plain value_from station_in octets_in context_in every same split on_first
who_at = refl

-- an empty field is no `-`
pub empty_context : event_in (octets_of "join 0 020000000001 1 - ") ≡ None
unfolding event_in event_said said_of said_fields said_with kind_in named_in number_field station_field old_field context_field number_in is_number is_plain value_from station_in octets_in context_in every same split on_first
empty_context = refl

pub seven_fields : event_in (octets_of "tick 1 - - - - -") ≡ None
unfolding event_in event_said said_of said_fields said_with kind_in named_in number_field station_field old_field context_field number_in is_number is_plain value_from station_in octets_in context_in every same split on_first
seven_fields = refl
