-- What the code's structs mean: an event, in document 01's numbers.
use Rattle.std.specs.Prelude.{ℕ, Bool, true, false, List}
use Rattle.std.specs.Prelude.{Option}
use Rattle.machine.specs.Stations.{Station}
use Rattle.machine.specs.Events as machine
use Rattle.structs.specs.declared.Kind.{Kind}
use Rattle.structs.specs.declared.Kind.TheVariants.{Join, Leave, Deliver, Repeat, Lose, Tick, Who}
use Rattle.structs.specs.declared.Event.{Event}

-- an event of each kind. What it has no use for is ignored: a leave has no sequence number, and so on
abbrev pub event_as : Kind → ℕ → Station → ℕ → Option ℕ → List ℕ → machine.Event
event_as Join b s n old c = machine.join b s n old c
event_as Leave b s n old c = machine.leave b s
event_as Deliver k s n old c = machine.deliver k
event_as Repeat k s n old c = machine.repeat k
event_as Lose k s n old c = machine.lose k
event_as Tick b s n old c = machine.tick b
event_as Who b s n old c = machine.who s

-- a who alone changes nothing and lets no AP act
abbrev pub is_who : Kind → Bool
is_who Join = false
is_who Leave = false
is_who Deliver = false
is_who Repeat = false
is_who Lose = false
is_who Tick = false
is_who Who = true

-- the event e with the context c
abbrev pub event_from : Event → List ℕ → machine.Event
event_from e c = event_as e.kind e.at e.station e.sequence e.old c
