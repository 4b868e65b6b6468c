-- The packets that an access point sends of its own accord, and what the writer asks of a packet and of a move's notice.
use Rattle.std.specs.Prelude.{ℕ, ◌≤◌, Bool, leb, length}
use Rattle.packet.specs.Fields.{Fields}
use Rattle.writer.specs.Write.{octets_of}
use Rattle.structs.specs.declared.InFlight.{InFlight}
use Rattle.structs.specs.declared.Move.{Move}
use Rattle.machine.specs.Stations.{Station}
use Rattle.machine.specs.Associations.{padded}
use Rattle.machine.specs.Packets.{Packet, add_notify, move_notify, Outgoing}

-- the writer refuses such a packet only for a short buffer
abbrev pub IsWithin : Fields → Type 0
IsWithin f = (f.sequence ≤ 4095) × (f.status ≤ 1) × (length f.context ≤ 64)

-- a packet with these fields as it is carried: its octets, and zeros to the end of the array
abbrev pub sent_as : ℕ → ℕ → Fields → InFlight
sent_as from to f = record { from = from; to = to; len = length (octets_of f); octets = padded 82 (octets_of f) }

-- "one ADD-notify with the next identifier"
abbrev pub add_packet : ℕ → Station → ℕ → Packet
add_packet i s n = record { identifier = i; station = s; sequence = n; message = add_notify }

-- "MOVE-notify with empty context goes to old"
abbrev pub notify_to : ℕ → ℕ → Station → ℕ → Outgoing
notify_to o i s n = record { to = o; packet = record { identifier = i; station = s; sequence = n; message = move_notify } }

-- a sequence number within 0..4095
unfoldable pub sequence_within : Move → Bool
sequence_within m = leb m.sequence 4095
