-- Document 01, "Packets": what reading a list of octets gives.
use Rattle.std.specs.Prelude.{◌≡◌, refl, ℕ, List, [], ◌∷◌, cond, take, drop, eqb, Result, Ok, Err}
use Rattle.lists.specs.Table.{first_of, accepts}
use Rattle.answers.specs.declared.Refusal.{Refusal}
use Rattle.answers.specs.Numbers.{refusal_number}
use Rattle.packet.specs.declared.Command.{Command}
use Rattle.packet.specs.declared.Command.TheVariants.{AddNotify, MoveNotify, MoveResponse}
use Rattle.packet.specs.Fields.{octet_of}
use Rattle.packet.specs.Layout.{command_in, identifier_in, data_in, is_add, status_in, station_in, sequence_in, context_length_in, context_start}
use Rattle.reader.specs.Refusals.{head_tests, data_tests, reader_tests}
use Rattle.reader.specs.declared.Received.{Received}

-- what the reader answers, in numbers
pub record Reading : Type 0 where
  pub answer : ℕ
  pub command : ℕ
  pub identifier : ℕ
  pub status : ℕ
  pub station : List ℕ
  pub sequence : ℕ
  pub start : ℕ
  pub len : ℕ

-- the numbers of the reader's struct, of an accepted packet
abbrev pub reading_of : Received → Reading
reading_of r =
    record { answer = 0; command = octet_of r.command; identifier = r.identifier; status = r.status; station = r.station; sequence = r.sequence; start = r.start; len = r.len }

-- "A refusal returns its number, every other number of the answer 0 and any returned part empty"
abbrev pub refused_by : ℕ → Reading
refused_by n =
    record { answer = n; command = 0; identifier = 0; status = 0; station = 0 ∷ 0 ∷ 0 ∷ 0 ∷ 0 ∷ 0 ∷ []; sequence = 0; start = 0; len = 0 }

-- the numbers of what the reader answers
abbrev pub read_as : Result Received Refusal → Reading
read_as (Ok r) = reading_of r
read_as (Err e) = refused_by (refusal_number e)

-- the command of an octet that is at most 2
unfoldable pub command_of : ℕ → Command
command_of n = cond (eqb n 0) AddNotify (cond (eqb n 1) MoveNotify MoveResponse)

-- r where the tests answer 0, else their refusal
abbrev pub accept : ℕ → Reading → Reading
accept n r = cond (accepts n) r (refused_by n)

-- what an accepted packet says: command c, status t, identifier i, and its data d
abbrev pub taken : ℕ → ℕ → ℕ → List ℕ → Reading
taken c t i d =
    record { answer = 0; command = c; identifier = i; status = t; station = station_in d; sequence = sequence_in d; start = cond (is_add c) 0 context_start; len = cond (is_add c) 0 (context_length_in d) }

-- what the reader of command c's data gives: the data d of a packet with identifier i and Length n
unfoldable pub read_data : ℕ → ℕ → ℕ → List ℕ → Reading
read_data c i n d = accept (first_of (data_tests c (status_in c d) n d)) (taken c (status_in c d) i d)

-- what reading the packet s gives
unfoldable pub read_of : List ℕ → Reading
read_of s = accept (first_of (reader_tests s)) (taken (command_in s) (status_in (command_in s) (data_in s)) (identifier_in s) (data_in s))

-- a packet of three octets is refused by 1, and every other number is 0
pub short_refused : read_of (0 ∷ 0 ∷ 9 ∷ []) ≡ record { answer = 1; command = 0; identifier = 0; status = 0; station = 0 ∷ 0 ∷ 0 ∷ 0 ∷ 0 ∷ 0 ∷ []; sequence = 0; start = 0; len = 0 }
unfolding read_of reader_tests head_tests
short_refused = refl

-- "the context block comes back as that part of the caller's packet"
unfoldable pub context_of : List ℕ → List ℕ
context_of s = take (read_of s).len (drop (read_of s).start s)
