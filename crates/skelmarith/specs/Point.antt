-- One access point, its record lent: what an exported function leaves there, with its reply.
use Rattle.structs.specs.declared.LoneAccessPoint.{LoneAccessPoint}
use Rattle.alone.specs.declared.Reply.{Reply}
use Rattle.alone.specs.declared.Outcome.{Outcome}

abbrev pub alone_of : Reply → LoneAccessPoint → Outcome
alone_of r l = record { lone = l; reply = r }
