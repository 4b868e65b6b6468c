-- `sequence::newer` meets its contract: the wrapped difference has the definition's residue, which decides.
-- Assumes nothing.
use Rattle.std.proofs.Common.{◌+◌, ◌-◌, ◌%◌, arith, le-ltb}
use Rattle.sequence.proofs.Laws.{residue_is, newer_at_zero, newer_above_zero}
use Rattle.sequence.proofs.newer.Goals as goal

pub returns-then-d-gt0 : goal.returns-then-d-gt0
returns-then-d-gt0 c =
    let e = residue_is c.args.n c.args.m ((c.args.n + (65536 - c.args.m)) % 65536) (omega arith) in
    simp (newer_above_zero c.args.n c.args.m (omega arith), e)

pub returns-else-d-gt0 : goal.returns-else-d-gt0
returns-else-d-gt0 c =
    let e = residue_is c.args.n c.args.m ((c.args.n + (65536 - c.args.m)) % 65536) (omega arith) in
    rw (newer_at_zero c.args.n c.args.m (omega arith)) (le-ltb 0 _ (omega arith))
