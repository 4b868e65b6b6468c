-- `moves::find` meets its contract. The loop's invariant: the first place that agrees is as many places on as were passed, and
-- then the first of the rest. Assumes nothing.
use Prim.Native.Nat.{◌+◌}
use mathlib.Core.Path.{◌≡◌}
use lib.ListN.{length, drop}
use Rattle.lists.specs.Search.{index_by}
use Rattle.moves.specs.Asked.{answers}
use Rattle.moves.proofs.find.Given as goal

abbrev pub invariant-loop-i : goal.invariant-loop-i
invariant-loop-i l = (l.place ≡ length l.moves)
    × (index_by (answers l.asked) l.moves ≡ l.i + index_by (answers l.asked) (drop l.i l.moves))
