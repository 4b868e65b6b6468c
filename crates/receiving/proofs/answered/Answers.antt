-- `receiving::answered` meets its contract: the station's association takes the context, goes, or stays.
-- Assumes nothing.
use Rattle.receiving.proofs.Laws.{answered_filled, answered_gone}
use Rattle.receiving.proofs.answered.Goals as goal

pub returns-then-status-eq0-clause-result_value : goal.returns-then-status-eq0-clause-result_value
returns-then-status-eq0-clause-result_value c =
    λ s a q. answered_filled s a c.args.x q c.args.sequence c.args.status c.args.context.now c.in-Some.row c.in-Some.ensures c.if-sequence-row.true c.if-status-eq0.true
    _ c.with_edit.result c.new_association-next.ensures c.with_edit.ensures

pub returns-else-status-eq0-clause-result_value : goal.returns-else-status-eq0-clause-result_value
returns-else-status-eq0-clause-result_value c =
    λ s a q. answered_gone s a c.args.x q c.args.sequence c.args.status c.args.context.now c.in-Some.row c.in-Some.ensures c.if-sequence-row.true c.if-status-eq0.false
    c.with_edit-else-status-eq0.result c.with_edit-else-status-eq0.ensures
