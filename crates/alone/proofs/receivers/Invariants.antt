-- `alone::receivers` meets its contract. The loop's invariant: the first i receivers are in their places.
-- Assumes nothing.
use mathlib.Core.Path.{◌≡◌}
use mathlib.Core.List.{map}
use lib.ListN.{take}
use Rattle.machine.specs.Associations.{padded}
use Rattle.alone.specs.Front.{receiver}
use Rattle.alone.proofs.receivers.Given as goal

abbrev pub invariant-loop-i : goal.invariant-loop-i
invariant-loop-i l = l.to ≡ padded 8 (map receiver (take l.i l.p-items))
