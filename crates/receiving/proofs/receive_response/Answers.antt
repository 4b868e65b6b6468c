-- `receiving::receive_response` meets its contract: the move found closes, or nothing happens.
-- Assumes nothing.
use Rattle.std.proofs.Common.{refl}
use Rattle.receiving.proofs.Laws.{closes_none, closes_one}
use Rattle.receiving.proofs.receive_response.Goals as goal

pub returns-then-open-j-clause-result_value : goal.returns-then-open-j-clause-result_value
returns-then-open-j-clause-result_value c =
    let r = c.args.r in
    λ a q. closes_none r.station a c.args.x q r.sequence r.status c.args.context.now c.args.from r.identifier c.find-j.result c.find-j.ensures c.if-open-j.true

pub returns-clause-result_value : goal.returns-clause-result_value
returns-clause-result_value c =
    let r = c.args.r in
    let y = c.answered in
    λ a q. closes_one r.station a c.args.x q r.sequence r.status c.args.context.now c.args.from r.identifier c.find-j.result c.find-j.ensures c.if-open-j.false
    y.result _ _ (y.ensures.result_value r.station a q) c.remove.ensures refl
