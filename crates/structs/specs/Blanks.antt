-- The blank elements: what a slot holds that no element uses.
use Rattle.std.specs.Prelude.{replicate}
use Rattle.structs.specs.declared.Association.{Association}
use Rattle.structs.specs.declared.Move.{Move}
use Rattle.structs.specs.declared.InFlight.{InFlight}

unfoldable pub no_association : Association
no_association = record { station = replicate 6 0; sequence = 0; context_len = 0; context = replicate 64 0 }

unfoldable pub no_move : Move
no_move = record { station = replicate 6 0; sequence = 0; old = 0; identifier = 0; ticks_left = 0; resends_left = 0 }

unfoldable pub no_in_flight : InFlight
no_in_flight = record { from = 0; to = 0; len = 0; octets = replicate 82 0 }
