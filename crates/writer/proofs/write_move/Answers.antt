-- `writer::write_move` meets its contract: the front is copied, and the context after it.
-- Assumes nothing.
use Rattle.std.proofs.Common.{rules, arith}
use Rattle.writer.proofs.Writing.{move_written}
use Rattle.writer.proofs.write_move.Goals as goal

pub returns : goal.returns
returns c =
    move_written _ _ _ c.args.p.station _ _ _ _ _ _ c.requires (search rules) (omega arith) (omega arith) (omega arith) (omega arith)
    c.front.ensures c.copy.ensures c.copy-2.ensures
