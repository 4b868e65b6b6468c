-- `floor_link::event` meets its contract: 14, or the machine's step.
-- Assumes nothing.
use mathlib.Core.Path.{sym, ◌∙◌}
use Rattle.network.specs.Events.{refused}
use Rattle.network.proofs.Refusal14.{gets_14}
use Rattle.network.proofs.Lent.{event_valid}
use Rattle.events.specs.Event.{event_from}
use Rattle.floor_link.proofs.event.Goals as goal

pub returns-then-not-valid : goal.returns-then-not-valid
unfolding refused
returns-then-not-valid c =
    sym (gets_14 c.args.network (event_from c.args.e c.args.context.now) (sym c.valid.ensures ∙ c.if-not-valid.true))

pub perform-requires : goal.perform-requires
perform-requires c = sym c.valid.ensures ∙ c.if-not-valid.false

pub returns : goal.returns
returns c =
    c.perform.ensures
    ∙ sym (event_valid c.args.network (event_from c.args.e c.args.context.now) (sym c.valid.ensures ∙ c.if-not-valid.false))
