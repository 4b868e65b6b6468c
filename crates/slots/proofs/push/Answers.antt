-- `push` meets its contract: the element stands at the place after the used ones, and one more is used.
-- Assumes nothing.
use native.Mathlib.Omega.{arith}
use Rattle.slots.proofs.Over.{pushed}
use Rattle.slots.proofs.Laws.{count_more}
use Rattle.slots.proofs.push.Goals as goal

pub returns-clause-items : goal.returns-clause-items
returns-clause-items g c = pushed g.T.Blank.blank c.args.count.now c.args.items.now c.args.x (omega arith)

pub returns-clause-count : goal.returns-clause-count
returns-clause-count g c = count_more c.args.count.now c.args.items.now (omega arith) c.args.x
