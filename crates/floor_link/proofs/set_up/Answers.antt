-- `floor_link::set_up` meets its contract: 14, or the new network.
-- Assumes nothing.
use mathlib.Core.Path.{sym, ◌∙◌}
use native.Mathlib.Omega.{arith}
use Rattle.machine.specs.Valid.{valid_setup}
use Rattle.machine.proofs.Valid.{SetupIn, setup_in}
use Rattle.floor_link.specs.Answered.{set_up_done}
use Rattle.floor_link.proofs.set_up.Goals as goal

pub returns-then-not-valid_setup : goal.returns-then-not-valid_setup
unfolding set_up_done
returns-then-not-valid_setup c = rw (sym c.valid_setup.ensures ∙ c.if-not-valid_setup.true)

pub overflow_cast-ap_count : goal.overflow_cast-ap_count
unfolding valid_setup
overflow_cast-ap_count c =
    let within : SetupIn c.args.ap_count c.args.timeout c.args.resend_limit = setup_in _ _ _ (sym c.valid_setup.ensures ∙ c.if-not-valid_setup.false) in
    omega (arith, within.count.1)

pub overflow_cast-resend_limit : goal.overflow_cast-resend_limit
unfolding valid_setup
overflow_cast-resend_limit c =
    let within : SetupIn c.args.ap_count c.args.timeout c.args.resend_limit = setup_in _ _ _ (sym c.valid_setup.ensures ∙ c.if-not-valid_setup.false) in
    omega (arith, within.limit)

pub returns : goal.returns
unfolding set_up_done
returns c = rw (sym c.valid_setup.ensures ∙ c.if-not-valid_setup.false, c.new_network.ensures)
