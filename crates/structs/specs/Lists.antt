-- The lists of a record: an array with its used length. `get` takes the used part, `put` writes a list back over the front, blanks the slots that
-- became free and keeps the others.
use Rattle.std.specs.Prelude.{◌≡◌, refl, List, [], ◌∷◌, length, take, replicate}
use Rattle.slots.specs.Lists.{over}
use Rattle.structs.specs.declared.Association.{Association}
use Rattle.structs.specs.declared.Move.{Move}
use Rattle.structs.specs.declared.InFlight.{InFlight}
use Rattle.structs.specs.declared.Associations.{Associations}
use Rattle.structs.specs.declared.Moves.{Moves}
use Rattle.structs.specs.declared.InFlights.{InFlights}
use Rattle.structs.specs.declared.Outbox.{Outbox}
use Rattle.structs.specs.Blanks.{no_association, no_move, no_in_flight}

-- an AP's table

abbrev pub no_associations : Associations
no_associations = record { items = replicate 16 no_association; count = 0 }

abbrev pub get_associations : Associations → List Association
get_associations t = take t.count t.items

abbrev pub put_associations : Associations → List Association → Associations
put_associations t xs = record { items = over no_association t.count xs t.items; count = length xs }

-- its open moves

abbrev pub no_moves : Moves
no_moves = record { items = replicate 8 no_move; count = 0 }

abbrev pub get_moves : Moves → List Move
get_moves t = take t.count t.items

abbrev pub put_moves : Moves → List Move → Moves
put_moves t xs = record { items = over no_move t.count xs t.items; count = length xs }

-- the packets in flight: "up to 64 packets in order of sending"

abbrev pub no_in_flights : InFlights
no_in_flights = record { items = replicate 64 no_in_flight; count = 0 }

abbrev pub get_in_flight : InFlights → List InFlight
get_in_flight t = take t.count t.items

abbrev pub put_in_flight : InFlights → List InFlight → InFlights
put_in_flight t ws = record { items = over no_in_flight t.count ws t.items; count = length ws }

-- the packets that one event sends: none, those of an outbox, and others in their place

abbrev pub no_outbox : Outbox
no_outbox = record { items = replicate 8 no_in_flight; count = 0 }

abbrev pub get_outbox : Outbox → List InFlight
get_outbox o = take o.count o.items

abbrev pub put_outbox : Outbox → List InFlight → Outbox
put_outbox o ps = record { items = over no_in_flight o.count ps o.items; count = length ps }

-- an example, with a packet of one octet

abbrev packet : InFlight
packet = record { from = 0; to = 1; len = 1; octets = 7 ∷ replicate 81 0 }

pub freed_blank : put_in_flight (record { items = packet ∷ packet ∷ []; count = 2 }) (packet ∷ []) ≡ record { items = packet ∷ no_in_flight ∷ []; count = 1 }
unfolding over
freed_blank = refl
