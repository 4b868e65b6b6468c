-- `script_fields::octet_at` meets its contract.
-- Assumes nothing.
use Rattle.std.proofs.Common.{arith}
use Rattle.script_fields.proofs.Runs.{hex_at, octets_at}
use Rattle.script_fields.proofs.octet_at.Goals as goal

pub hex_of-requires : goal.hex_of-requires
hex_of-requires c = hex_at c.args.f.now _ c.requires.1 (omega arith)

pub hex_of-requires-2 : goal.hex_of-requires-2
hex_of-requires-2 c = hex_at c.args.f.now _ c.requires.1 (omega arith)

pub returns : goal.returns
returns c = omega (arith, octets_at c.args.f.now c.args.i c.requires.0)
