-- `access_point::outside_at` meets its contract: each refusal is told by the tests before it; an accepted packet is answered.
-- Assumes nothing.
use Rattle.std.proofs.Common.{◌≡◌, length, sym, ap, ◌∙◌, refl, arith, rules, le-ltb, lt-ltb, eq-eqb}
use Rattle.std.proofs.lemmas.Result.{err_from_is_err_and}
use Rattle.reader.proofs.Steps.{within, part_length, accepted_limits, start_limit}
use Rattle.reader.specs.Read.{Reading, reading_of}
use Rattle.record.proofs.LensLaws.{Fits}
use Rattle.access_point.proofs.Replies.{fits}
use Rattle.access_point.proofs.Outsides.{usable, invalid, stranger, unreadable, readable}
use Rattle.access_point.proofs.outside_at.Goals as goal
use Rattle.access_point.proofs.outside_at.Goals.{then-l-from-via-then-l-from, then-l-from-via-else-l-from+then-from-l}

pub returns-then-not-valid_lone-clause-taken_value : goal.returns-then-not-valid_lone-clause-taken_value
returns-then-not-valid_lone-clause-taken_value c =
    invalid c.args.l.now c.args.from c.args.packet.now c.args.buffer.now (sym c.if-not-valid_lone.ensures)

pub returns-then-l-from-clause-taken_value : goal.returns-then-l-from-clause-taken_value
returns-then-l-from-clause-taken_value c =
    let l = c.args.l.now in
    let v = sym c.if-not-valid_lone.ensures in
    let n : length l.point.associations.items ≡ 16 = search rules in
    let m : length l.point.moves.items ≡ 8 = search rules in
    let z : Fits l.point = fits l.point (n, m) (usable l v) in
    stranger l v z c.args.from c.args.packet.now c.args.buffer.now
    (elim c.then-l-from.branch [
      | then-l-from-via-then-l-from w ↦ rw (le-ltb c.args.from l.ap_count w.if-l-from.true)
      | then-l-from-via-else-l-from+then-from-l w ↦ rw (lt-ltb c.args.from l.ap_count w.if-l-from.false, eq-eqb c.args.from l.number w.if-from-l.true)
    ])

pub returns-in_err-r-clause-taken_value : goal.returns-in_err-r-clause-taken_value
returns-in_err-r-clause-taken_value c =
    let l = c.args.l.now in
    let v = sym c.if-not-valid_lone.ensures in
    let n : length l.point.associations.items ≡ 16 = search rules in
    let m : length l.point.moves.items ≡ 8 = search rules in
    let z : Fits l.point = fits l.point (n, m) (usable l v) in
    let p = err_from_is_err_and c.from_residual.result c.from_residual.ensures.1 in
    rw (p.1, p.2)
    (unreadable l v z c.args.from c.args.packet.now c.args.buffer.now c.if-l-from.false c.if-from-l.false c.in_err-r.field-0.0 c.in_err-r.ensures)

pub overflow_add-end : goal.overflow_add-end
overflow_add-end c =
    let s = c.args.packet.now in
    let e = c.in_ok-r.ensures in
    let a = accepted_limits s (ap (λ (r : Reading). r.answer) (sym e)) in
    omega (arith, start_limit s, a.1, ap (λ (r : Reading). r.start) e, ap (λ (r : Reading). r.len) e)

pub slice_bounds-answer_packet-end : goal.slice_bounds-answer_packet-end
slice_bounds-answer_packet-end c =
    let s = c.args.packet.now in
    let e = c.in_ok-r.ensures in
    omega (arith, within s, ap (λ (r : Reading). r.start) e, ap (λ (r : Reading). r.len) e)

pub answer_packet-requires-clause-point_usable : goal.answer_packet-requires-clause-point_usable
answer_packet-requires-clause-point_usable c = usable c.args.l.now (sym c.if-not-valid_lone.ensures)

pub answer_packet-requires-clause-packet_limits : goal.answer_packet-requires-clause-packet_limits
answer_packet-requires-clause-packet_limits c =
    let s = c.args.packet.now in
    let e = c.in_ok-r.ensures in
    let a = accepted_limits s (ap (λ (r : Reading). r.answer) (sym e)) in
    (omega (arith, part_length s (reading_of c.in_ok-r.r) e, a.1), omega (arith, ap (λ (r : Reading). r.sequence) e, a.0))

pub returns-clause-taken_value : goal.returns-clause-taken_value
returns-clause-taken_value c =
    let l = c.args.l.now in
    let v = sym c.if-not-valid_lone.ensures in
    let n : length l.point.associations.items ≡ 16 = search rules in
    let m : length l.point.moves.items ≡ 8 = search rules in
    let z : Fits l.point = fits l.point (n, m) (usable l v) in
    c.answer_packet.ensures.taken_value
    ∙ readable l v z c.args.from c.args.packet.now c.args.buffer.now c.if-l-from.false c.if-from-l.false (reading_of c.in_ok-r.r) c.in_ok-r.ensures refl
