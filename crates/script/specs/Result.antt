-- Document 01, "Floor rehearsal": the line that an event prints.
use Rattle.std.specs.Prelude.{ℕ, Bool, true, false, ◌&&◌, ◌≡◌, refl, List, ◌∷◌, ◌++◌}
use Rattle.lists.specs.Table.{accepts}
use Rattle.answers.specs.declared.Refusal.TheVariants.{InvalidRecord, UnreadableLine}
use Rattle.answers.specs.Numbers.{refusal_number}
use Rattle.machine.specs.Events.{Event, join, leave, deliver, repeat, lose, tick, who}
use Rattle.network.specs.Events.{Line}
use Rattle.structs.specs.declared.Kind.{Kind}
use Rattle.structs.specs.declared.Kind.TheVariants.{Join, Leave, Deliver, Repeat, Lose, Tick, Who}
use Rattle.events.specs.Event.{is_who}
use Rattle.script.specs.Text.{octets_of}
use Rattle.script.specs.Fields.{decimal, digit}
use Rattle.script.specs.EventLine.{name_of}

-- "It prints" these names first
unfoldable pub result_names : List ℕ
result_names = octets_of "EVENT ANSWER SENT GIVENUP HELD TABLES\n"

-- "Bad setup or names lines print `? 14 0 0 - -` after the names and end it."
unfoldable pub bad_set_up : List ℕ
bad_set_up = octets_of "? 14 0 0 - -\n"

-- "An unreadable event line prints `? 18 0 0 - -` and the script goes on."
unfoldable pub unreadable : List ℕ
unreadable = octets_of "? 18 0 0 - -\n"

-- a number, after its blank
unfoldable pub field : ℕ → List ℕ
field n = 32 ∷ decimal n

-- HELD and TABLES, of a who that is accepted; "A refused event prints 0 0 - - after its number"
unfoldable pub held_fields : Bool → Line → List ℕ
held_fields true l = field l.held ++ field l.tables
held_fields false l = octets_of " - -"

-- EVENT ANSWER SENT GIVENUP HELD TABLES
unfoldable pub result_as : Kind → Line → List ℕ
result_as k l =
    name_of k ++ (field l.answer ++ (field l.sent ++ (field l.given_up ++ (held_fields (is_who k && accepts l.answer) l ++ octets_of "\n"))))

-- the kind of an event
abbrev pub kind_of : Event → Kind
kind_of (join b s n old c) = Join
kind_of (leave b s) = Leave
kind_of (deliver k) = Deliver
kind_of (repeat k) = Repeat
kind_of (lose k) = Lose
kind_of (tick b) = Tick
kind_of (who s) = Who

unfoldable pub result_of : Event → Line → List ℕ
result_of e l = result_as (kind_of e) l

-- examples

pub told : result_as Who (record { answer = 0; sent = 0; given_up = 0; held = 2; tables = 1 }) ≡ octets_of "who 0 0 0 2 1\n"
unfolding result_as field held_fields decimal digit
told = refl

pub refused_who : result_as Who (record { answer = 13; sent = 0; given_up = 0; held = 0; tables = 0 }) ≡ octets_of "who 13 0 0 - -\n"
unfolding result_as field held_fields decimal digit
refused_who = refl

pub a_join : result_as Join (record { answer = 0; sent = 1; given_up = 0; held = 0; tables = 0 }) ≡ octets_of "join 0 1 0 - -\n"
unfolding result_as field held_fields decimal digit
a_join = refl

-- the two lines that no event prints have the numbers of their answers, and "0 0 - -" as a refused event has

pub bad_set_up_14 : bad_set_up ≡ octets_of "?" ++ (field (refusal_number InvalidRecord) ++ octets_of " 0 0 - -\n")
unfolding bad_set_up field decimal digit
bad_set_up_14 = refl

pub unreadable_18 : unreadable ≡ octets_of "?" ++ (field (refusal_number UnreadableLine) ++ octets_of " 0 0 - -\n")
unfolding unreadable field decimal digit
unreadable_18 = refl
