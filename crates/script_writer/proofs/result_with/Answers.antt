-- `script_writer::result_with` meets its contract: its parts one after the other.
-- Assumes nothing.
use Rattle.std.proofs.Common.{inl, inr, arith}
use Rattle.answers.specs.Numbers.{number_of}
use Rattle.floor_link.specs.Answered.{line_with}
use Rattle.script_writer.proofs.Lines.{both, line_written}
use Rattle.script_writer.proofs.result_with.Goals as goal
use Rattle.script_writer.proofs.result_with.Goals.{then-is_who, else-is_who}

pub returns-clause-value : goal.returns-clause-value
returns-clause-value c =
    let t = both c.args.kind c.number-n.result c.is_who.result c.if-is_who.then_some c.is_who.ensures
    (elim c.if-is_who.branch [ then-is_who w ↦ inl (w.if-is_who.true, w.then_some-is) | else-is_who w ↦ inr (w.if-is_who.false, w.then_some-is) ]) in
    let w = line_written c.args.kind (line_with (number_of c.args.answer) c.args.l) c.number-n.ensures t c.name.ensures c.then_some.ensures
    c.put.ensures.len_after c.put.ensures.octets_after c.put_number.ensures.len_after c.put_number.ensures.octets_after
    c.put_number-2.ensures.len_after c.put_number-2.ensures.octets_after c.put_number-3.ensures.len_after c.put_number-3.ensures.octets_after
    c.put_held.ensures.len_after c.put_held.ensures.octets_after c.put-2.ensures.len_after c.put-2.ensures.octets_after in
    w.len

pub returns-clause-line_after : goal.returns-clause-line_after
returns-clause-line_after c =
    let t = both c.args.kind c.number-n.result c.is_who.result c.if-is_who.then_some c.is_who.ensures
    (elim c.if-is_who.branch [ then-is_who w ↦ inl (w.if-is_who.true, w.then_some-is) | else-is_who w ↦ inr (w.if-is_who.false, w.then_some-is) ]) in
    let w = line_written c.args.kind (line_with (number_of c.args.answer) c.args.l) c.number-n.ensures t c.name.ensures c.then_some.ensures
    c.put.ensures.len_after c.put.ensures.octets_after c.put_number.ensures.len_after c.put_number.ensures.octets_after
    c.put_number-2.ensures.len_after c.put_number-2.ensures.octets_after c.put_number-3.ensures.len_after c.put_number-3.ensures.octets_after
    c.put_held.ensures.len_after c.put_held.ensures.octets_after c.put-2.ensures.len_after c.put-2.ensures.octets_after in
    grind (arith, w.octets)
