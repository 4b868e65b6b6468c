-- `clear` meets its contract. The loop's invariant: the slots passed are blank, and the others are as they were.
-- Assumes nothing.
use mathlib.Core.Path.{◌≡◌}
use mathlib.Core.List.{◌++◌}
use lib.ListN.{drop, replicate}
use Rattle.slots.proofs.clear.Given as goal

abbrev pub invariant-loop-slot : goal.invariant-loop-slot
invariant-loop-slot g l = l.slot-items ≡ replicate l.slot-index g.T.Blank.blank ++ drop l.slot-index l.initial.slot-items
