-- `actions::lose_in` meets its contract: the record is as it came.
-- Assumes nothing.
use Rattle.actions.proofs.Laws.{lose_none, lose_done}
use Rattle.actions.proofs.lose_in.Goals as goal

pub returns-then-at-count : goal.returns-then-at-count
returns-then-at-count c a = lose_done c.args.at c.args.count a c.if-at-count.true

pub returns : goal.returns
returns c a = lose_none c.args.at c.args.count a c.if-at-count.false
