-- `events::holders` meets its contract. The loop's invariant: the mask is that of the access points from i on.
-- Assumes nothing.
use mathlib.Core.Path.{◌≡◌}
use mathlib.Core.List.{map}
use lib.ListN.{drop}
use Rattle.machine.specs.Events.{held_by}
use Rattle.record.specs.Lens.{get_point}
use Rattle.events.proofs.holders.Given as goal

abbrev pub invariant-loop-i : goal.invariant-loop-i
invariant-loop-i l = l.held ≡ held_by l.station (map get_point (drop l.i l.points))
