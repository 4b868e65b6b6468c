-- The loop over the lines: `Playing`, the lines so far have printed what they print, and that fits the room.
-- Assumes nothing.
use Prim.Native.Nat.{◌≤◌}
use Rattle.script_runner.proofs.Playing.{Playing}
use Rattle.script_runner.proofs.measure.Given as goal

abbrev pub invariant-loop-piece : goal.invariant-loop-piece
invariant-loop-piece l = Playing l.fn.network l.floor l.fn.s l.len l.piece-iterator.rest.now × (l.len ≤ l.fn.room)
