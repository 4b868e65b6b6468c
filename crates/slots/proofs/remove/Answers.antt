-- `remove` meets its contract.
-- Assumes nothing.
use native.Mathlib.Omega.{arith}
use Rattle.slots.proofs.Over.{removed}
use Rattle.slots.proofs.Laws.{count_out}
use Rattle.slots.proofs.remove.Goals as goal

pub returns-clause-items : goal.returns-clause-items
returns-clause-items g c =
    rw (c.copy_within.ensures.after, c.blank.ensures)
    (removed g.T.Blank.blank c.args.i c.args.count.now c.args.items.now (omega arith) (omega arith))

pub returns-clause-count : goal.returns-clause-count
returns-clause-count g c = count_out c.args.count.now c.args.items.now (omega arith) c.args.i (omega arith)
