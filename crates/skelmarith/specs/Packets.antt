-- What the exported functions over slices answer: their structs in numbers, and a packet whose command is given as an octet.
use Rattle.std.specs.Prelude.{◌≡◌, ℕ, cond, List, ltb, Result, Ok, Err}
use Rattle.answers.specs.declared.Refusal.{Refusal}
use Rattle.answers.specs.Numbers.{refusal_number}
use Rattle.packet.specs.Fields.{fields_of}
use Rattle.reader.specs.Read as reader
use Rattle.writer.specs.Write.{Writing, write_to}
use Rattle.script_runner.specs.Played as played
use Rattle.skelmarith.specs.declared.packets.Reading.{Reading}
use Rattle.skelmarith.specs.declared.packets.Written.{Written}

abbrev pub reading_in : Reading → reader.Reading
reading_in r =
    record { answer = r.answer; command = r.command; identifier = r.identifier; status = r.status; station = r.station; sequence = r.sequence; start = r.start; len = r.len }

-- the answer, the length written and what the lent buffer then holds
abbrev pub writing_in : Written → List ℕ → Writing
writing_in r b = record { answer = r.answer; len = r.len; buffer = b }

-- w tells in numbers how many octets were written, or the refusal
abbrev pub Tells : Result ℕ Refusal → Written → Type 0
Tells (Ok n) w = w ≡ record { answer = 0; len = n }
Tells (Err r) w = w ≡ record { answer = refusal_number r; len = 0 }

-- "3: Command above 02", before the writer's own numbers; else the packet of this command is written
unfoldable pub write_as : ℕ → ℕ → ℕ → List ℕ → ℕ → List ℕ → List ℕ → Writing
write_as c i t s n x b =
    cond (ltb 2 c)
    (record { answer = 3; len = 0; buffer = b })
    (write_to (fields_of (record { command = reader.command_of c; identifier = i; status = t; station = s; sequence = n }) x) b)

abbrev pub rehearsed_in : Written → List ℕ → played.Rehearsed
rehearsed_in r b = record { answer = r.answer; len = r.len; buffer = b }
