-- `skelmarith::floor::skel_join` meets its contract: of a context of more than 64 octets, 65 are enough.
-- Assumes nothing.
use Rattle.std.proofs.Common.{ap, ◌∙◌}
use Rattle.machine.specs.Events.{Event}
use Rattle.network.specs.Events.{event_of}
use Rattle.lent.proofs.Contexts.{join_cut}
use Rattle.skelmarith.proofs.floor.skel_join.Goals as goal

pub returns : goal.returns
returns c =
    c.event_at.ensures
    ∙ ap (λ (e : Event). event_of c.args.net.now e) c.join-q.ensures
    ∙ join_cut c.args.net.now c.args.at c.args.station.now c.args.sequence _ c.args.context.now
