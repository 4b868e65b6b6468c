-- A packet in numbers, its context included.
use Rattle.std.specs.Prelude.{◌≡◌, ℕ, ◌<◌, List, [], Result, MatchResult}
use Rattle.answers.specs.declared.Refusal.{Refusal}
use Rattle.answers.specs.declared.Refusal.TheVariants.{UnknownCommand}
use Rattle.packet.specs.declared.Command.{Command}
use Rattle.packet.specs.declared.Command.TheVariants.{AddNotify, MoveNotify, MoveResponse}
use Rattle.packet.specs.declared.Packet.{Packet}

-- the Command octet: "00 ADD-notify, 01 MOVE-notify, 02 MOVE-response"
abbrev pub octet_of : Command → ℕ
octet_of AddNotify = 0
octet_of MoveNotify = 1
octet_of MoveResponse = 2

-- the command of an octet, or 3: "Command above 02"
abbrev pub Names : ℕ → Result Command Refusal → Type 0
Names n r = MatchResult r (λ c. octet_of c ≡ n) (λ e. (e ≡ UnknownCommand) × (2 < n))

pub record Fields : Type 0 where
  pub command : ℕ
  pub identifier : ℕ
  pub status : ℕ
  pub station : List ℕ
  pub sequence : ℕ
  pub context : List ℕ

-- the fields of a packet with the context x: only a MOVE-response has a status, and an ADD-notify has no context
abbrev pub fields_as : Command → Packet → List ℕ → Fields
fields_as AddNotify p x = record { command = 0; identifier = p.identifier; status = 0; station = p.station; sequence = p.sequence; context = [] }
fields_as MoveNotify p x = record { command = 1; identifier = p.identifier; status = 0; station = p.station; sequence = p.sequence; context = x }
fields_as MoveResponse p x = record { command = 2; identifier = p.identifier; status = p.status; station = p.station; sequence = p.sequence; context = x }

abbrev pub fields_of : Packet → List ℕ → Fields
fields_of p x = fields_as p.command p x
