-- `sending::response` meets its contract: what is written are the octets of the answer.
-- Assumes nothing.
use Rattle.std.proofs.Common.{ap, ◌∙◌}
use Rattle.machine.specs.Packets.{written, carried}
use Rattle.machine.specs.AccessPoint.{answer_to}
use Rattle.sending.specs.Sends.{sent_as}
use Rattle.sending.proofs.response.Goals as goal

pub returns : goal.returns
unfolding carried written answer_to
returns c = c.send.ensures ∙ ap (sent_as c.args.from c.args.to) c.response.ensures
