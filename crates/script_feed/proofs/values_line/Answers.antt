-- `script_feed::values_line` meets its contract: the network of the values, if the line says any.
-- Assumes nothing.
use Rattle.std.proofs.Common.{sym, arith, refl, Ok, Err}
use Rattle.answers.proofs.Numbers.{refusal_above}
use Rattle.floor_link.specs.Answered.{set_up_of}
use Rattle.script_feed.proofs.Lines.{accepted, network_new}
use Rattle.script_feed.proofs.values_line.Goals as goal

pub returns-in_default : goal.returns-in_default
returns-in_default c = rw (← c.in_default.ensures) (record { value = refl; network_value = refl })

-- what is read is accepted
pub returns-in_default-set_up : goal.returns-in_default-set_up
returns-in_default-set_up c =
    let e = accepted c.args.l.now _ (sym c.in-Some.ensures) (set_up_of (Err c.in_default-set_up.field-0)) c.in_default-set_up.ensures in
    absurd (omega (arith, e, refusal_above c.in_default-set_up.field-0))

pub returns : goal.returns
returns c = rw (← c.in-Some.ensures) (record { value = refl; network_value = network_new c.args.l.now _ (sym c.in-Some.ensures) (set_up_of (Ok c.in-Ok.n)) c.in-Ok.ensures })
