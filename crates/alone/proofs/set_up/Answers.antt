-- `alone::set_up` meets its contract: where 14 does not apply, AP number, AP count and R are small.
-- Assumes nothing.
use mathlib.Core.Path.{sym, ◌∙◌}
use native.Mathlib.Omega.{arith}
use Rattle.machine.specs.Valid.{valid_setup}
use Rattle.machine.proofs.Valid.{SetupIn, setup_in}
use Rattle.alone.proofs.set_up.Goals as goal

pub overflow_cast-new : goal.overflow_cast-new
unfolding valid_setup
overflow_cast-new c =
    let within : SetupIn c.args.ap_count c.args.timeout c.args.resend_limit = setup_in _ _ _ (sym c.valid_setup.ensures ∙ c.if-not-valid_setup.false) in
    omega (arith, within.count.1)

pub overflow_cast-new-2 : goal.overflow_cast-new-2
unfolding valid_setup
overflow_cast-new-2 c =
    let within : SetupIn c.args.ap_count c.args.timeout c.args.resend_limit = setup_in _ _ _ (sym c.valid_setup.ensures ∙ c.if-not-valid_setup.false) in
    omega (arith, within.count.1)

pub overflow_cast-new-3 : goal.overflow_cast-new-3
unfolding valid_setup
overflow_cast-new-3 c =
    let within : SetupIn c.args.ap_count c.args.timeout c.args.resend_limit = setup_in _ _ _ (sym c.valid_setup.ensures ∙ c.if-not-valid_setup.false) in
    omega (arith, within.limit)
