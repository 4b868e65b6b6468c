-- `script_writer::Text::put_held` meets its contract: two numbers one after the other.
-- Assumes nothing.
use Rattle.std.proofs.Common.{◌∙◌}
use Rattle.script.specs.Result.{field}
use Rattle.script_writer.proofs.Over.{over_twice}
use Rattle.script_writer.proofs.Text.put_held.Goals as goal

pub returns-in-Some-clause-octets_after : goal.returns-in-Some-clause-octets_after
returns-in-Some-clause-octets_after c =
    let s = c.args.self.now in
    c.put_number-in-Some.ensures.octets_after
    ∙ rw (c.put_number.ensures.len_after, c.put_number.ensures.octets_after, c.in-Some.is) (over_twice s.len (field c.in-Some.held) (field c.in-Some.tables) s.octets.now)
