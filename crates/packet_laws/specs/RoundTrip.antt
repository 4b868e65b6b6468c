-- What the laws of reader and writer say: "Reading returns what was written, and each accepted packet is written back the same
-- but for padding and the reserved octet."
use Rattle.std.specs.Prelude.{ℕ, ◌≤◌, ◌≡◌, cond, List, [], length, take, set}
use Rattle.packet.specs.Layout.{command_in, length_in, is_add, is_response, context_start}
use Rattle.packet.specs.Fields.{Fields}
use Rattle.reader.specs.Read.{Reading, read_of, context_of}

-- fields that are a packet's, and that the writer accepts where there is room
pub record Writable (f : Fields) : Type 0 where
  pub command : f.command ≤ 2
  pub station : length f.station ≡ 6
  pub sequence : f.sequence ≤ 4095
  pub status : f.status ≤ 1
  pub context : length f.context ≤ 64
  -- only a MOVE-response has a status, and an ADD-notify has no context
  pub other_status : (f.command ≡ 2 → ⊥) → f.status ≡ 0
  pub add_context : f.command ≡ 0 → f.context ≡ []

-- the reading of a packet with these fields
abbrev pub reading_as : Fields → Reading
reading_as f =
    record { answer = 0; command = f.command; identifier = f.identifier; status = f.status; station = f.station; sequence = f.sequence; start = cond (is_add f.command) 0 context_start; len = length f.context }

-- the fields that reading the packet s gives
abbrev pub fields_of_octets : List ℕ → Fields
fields_of_octets s =
    record { command = (read_of s).command; identifier = (read_of s).identifier; status = (read_of s).status; station = (read_of s).station; sequence = (read_of s).sequence; context = context_of s }

-- the packet s without its padding, its first Length octets; "Reserved is written 00": octet 7, but in a MOVE-response
abbrev pub restored : List ℕ → List ℕ
restored s = cond (is_response (command_in s)) (take (length_in s) s) (set (take (length_in s) s) 7 0)
