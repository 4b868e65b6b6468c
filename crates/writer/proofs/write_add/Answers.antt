-- `writer::write_add` meets its contract: 16 octets of the front are copied.
-- Assumes nothing.
use Rattle.std.proofs.Common.{rules, arith}
use Rattle.writer.proofs.Writing.{add_written}
use Rattle.writer.proofs.write_add.Goals as goal

pub returns : goal.returns
returns c = add_written _ c.args.p.station _ _ _ _ (search rules) (omega arith) (omega arith) c.front.ensures c.copy.ensures
