-- `lent::set_up` meets its contract: the new network, or 14 and the record as it came.
-- Assumes nothing.
use mathlib.Core.Path.{◌∙◌}
use Rattle.lent.proofs.SetUps.{accepted, not_accepted}
use Rattle.lent.proofs.set_up.Goals as goal

pub returns-in-Ok : goal.returns-in-Ok
returns-in-Ok c = accepted c.args.network c.args.ap_count c.args.timeout c.args.resend_limit c.in-Ok.new c.in-Ok.ensures

pub returns-in-Err : goal.returns-in-Err
returns-in-Err c =
    c.refused.ensures ∙ not_accepted c.args.network c.args.ap_count c.args.timeout c.args.resend_limit c.in-Err.refusal c.in-Err.ensures
