-- What a search of the open moves asks for. The machine's rules read identifier, station and sequence number of a packet, and
-- nothing of its message: any message does here.
use Rattle.std.specs.Prelude.{ℕ, Bool}
use Rattle.structs.specs.declared.Move.{Move}
use Rattle.machine.specs.Stations.{Station}
use Rattle.machine.specs.Packets.{Packet, stale_move}
use Rattle.machine.specs.Moves.{agrees}
use Rattle.moves.specs.declared.Asked.{Asked}

abbrev pub asked : ℕ → Station → ℕ → Packet
asked identifier station sequence = record { identifier = identifier; station = station; sequence = sequence; message = stale_move }

-- whether a move is one that is asked for
abbrev pub answers : Asked → Move → Bool
answers a m = agrees a.from (asked a.identifier a.station a.sequence) m
