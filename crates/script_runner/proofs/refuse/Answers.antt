-- `script_runner::refuse` meets its contract.
-- Assumes nothing.
use mathlib.Core.Path.{refl}
use mathlib.Core.List.{◌++◌}
use Rattle.script.specs.Result.{result_names, bad_set_up}
use Rattle.script_runner.proofs.Whole.{refused_is, written_is}
use Rattle.script_runner.proofs.refuse.Goals as goal

pub returns-then-out-lt51 : goal.returns-then-out-lt51
unfolding result_names bad_set_up
returns-then-out-lt51 c =
    refused_is (result_names ++ bad_set_up) c.args.out.now _ refl c.if-out-lt51.true

pub returns : goal.returns
unfolding result_names bad_set_up
returns c =
    written_is 51 (result_names ++ bad_set_up) c.args.out.now _ c.if-out-lt51.false refl c.put.ensures
