-- Refusal 14: "Any call given a record with a used length, size, AP count, T, R, sequence number, ticks or resends left, or AP
-- number outside this paper's limits, with two rows of one station at one AP, or with a packet in the air that the reader
-- refuses, also gets 14, before every other number". Here are the tests that a record passes where 14 does not apply. Only used
-- parts are looked at.
use Rattle.std.specs.Prelude.{ℕ, Bool, true, ◌&&◌, not, List, [], ◌∷◌, ltb, leb, length, is_some}
use Rattle.lists.specs.Table.{first_of, accepts}
use Rattle.lists.specs.Places.{every}
use Rattle.structs.specs.declared.Association.{Association}
use Rattle.structs.specs.declared.InFlight.{InFlight}
use Rattle.machine.specs.Associations.{sequence_of}
use Rattle.machine.specs.Packets.{readable, octets_in}
use Rattle.machine.specs.Moves.{Open}
use Rattle.machine.specs.AccessPoint.{AccessPoint}
use Rattle.machine.specs.Network.{Network, setup_tests}

-- sequence number 0..4095, context of 0..64 octets
unfoldable pub valid_association : Association → Bool
valid_association r = leb r.sequence 4095 && leb r.context_len 64

-- no two rows of one station
unfoldable pub distinct : List Association → Bool
distinct [] = true
distinct (r ∷ rs) = not (is_some (sequence_of r.station rs)) && distinct rs

-- sequence number 0..4095, old AP below the AP count k, ticks left 1..65535, resends left 0..7
unfoldable pub valid_move : ℕ → Open → Bool
valid_move k m =
    leb m.move.sequence 4095
    && (ltb m.move.old k && (leb 1 m.move.ticks_left && (leb m.move.ticks_left 65535 && leb m.move.resends_left 7)))

-- "up to 16 rows", "up to 8 open moves"
unfoldable pub valid_point : ℕ → AccessPoint → Bool
valid_point k a =
    leb (length a.associations) 16
    && (every valid_association a.associations && (distinct a.associations && (leb (length a.moves) 8 && every (valid_move k) a.moves)))

-- sender and receiver below the AP count k, at most 82 octets, and the reader accepts them
unfoldable pub valid_in_flight : ℕ → InFlight → Bool
valid_in_flight k w = ltb w.from k && (ltb w.to k && (leb w.len 82 && readable (octets_in w)))

-- AP count 1..8, T 1..65535, R 0..7, as at set-up
unfoldable pub valid_setup : ℕ → ℕ → ℕ → Bool
valid_setup k t r = accepts (first_of (setup_tests k t r))

-- a network's record: "up to 64 packets"
unfoldable pub valid_network : Network → Bool
valid_network f =
    valid_setup (length f.points) f.timeout f.resend_limit
    && (every (valid_point (length f.points)) f.points
    && (leb (length f.in_flight) 64 && every (valid_in_flight (length f.points)) f.in_flight))
