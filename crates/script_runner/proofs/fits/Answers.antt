-- `script_runner::fits` meets its contract.
-- Assumes nothing.
use Prim.Native.Nat.{◌≤◌}
use mathlib.Core.Path.{sym, ap, ◌∙◌}
use native.Mathlib.Omega.{arith}
use borrow.Author.Tests.{le-leb}
use lib.ListN.{length}
use Rattle.std.specs.Prelude.{Option, is_some}
use Rattle.script.specs.Text.{lines}
use Rattle.script.specs.Script.{printed}
use Rattle.script_runner.specs.declared.Played.{Played}
use Rattle.script_runner.proofs.Room.{printed_short}
use Rattle.script_runner.proofs.Whole.{measured_is}
use Rattle.script_runner.proofs.fits.Goals as goal

pub returns-then-s-room : goal.returns-then-s-room
returns-then-s-room c =
    let l : length (printed c.args.network (lines c.args.s.now)) ≤ c.args.room = omega (arith, c.if-s-room.true, printed_short c.args.network c.args.s.now) in
    rw (le-leb _ _ c.if-s-room.true) (sym (le-leb _ _ l))

pub returns-else-s-room : goal.returns-else-s-room
returns-else-s-room c =
    c.is_some.ensures ∙ ap (λ (o : Option Played). is_some o) c.measure.ensures.value ∙ measured_is c.args.network (lines c.args.s.now) c.args.room
