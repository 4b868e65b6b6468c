-- The loop over the lines: `Playing`, the lines so far have printed what they print, and that is what stands at the front of the buffer.
-- Assumes nothing.
use mathlib.Core.Path.{◌≡◌}
use mathlib.Core.List.{◌++◌}
use lib.ListN.{take, drop}
use Rattle.script.specs.Text.{lines}
use Rattle.script.specs.Script.{printed}
use Rattle.script_runner.proofs.Playing.{Playing}
use Rattle.script_runner.proofs.play.Given as goal

abbrev pub invariant-loop-part : goal.invariant-loop-part
invariant-loop-part l = Playing l.fn.network l.floor l.fn.s l.len l.part-iterator.rest.now × (l.out ≡ take l.len (printed l.fn.network (lines l.fn.s)) ++ drop l.len l.initial.out)
