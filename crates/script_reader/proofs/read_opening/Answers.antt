-- `script_reader::read_opening` meets its contract: both lines of names, then the values between them.
-- Assumes nothing.
use Rattle.std.proofs.Common.{rules, tests, arith, refl, sym, ◌≡◌, ◌∙◌}
use Rattle.script.specs.SetUpLines.{set_up_names, event_names}
use Rattle.script_fields.proofs.Texts.{differ, agree}
use Rattle.script_reader.specs.Heard.{three_lines, opening_in}
use Rattle.script_reader.proofs.Pieces.{take_next, take_none, of_text}
use Rattle.script_reader.proofs.Lines.{few_pieces, no_names, no_event_names, by_values, lines_end}
use Rattle.script_reader.proofs.read_opening.Goals as goal

pub returns-in_err-values : goal.returns-in_err-values
unfolding opening_in
returns-in_err-values c =
    let s = c.args.s.now in
    let p = take_next (of_text _ s c.split-lines.ensures.rest c.split-lines.ensures.done c.split-lines.ensures.closure (λ x b q k. search (rules, tests))) c.in_ok-names.was c.next.ensures.steps in
    rw (c.from_residual-in_err-values.ensures, few_pieces s _ (take_none p c.in_err-values.was c.next-2.ensures.steps) (omega arith))

pub returns-in_err-event_names : goal.returns-in_err-event_names
unfolding opening_in
returns-in_err-event_names c =
    let s = c.args.s.now in
    let p = take_next (of_text _ s c.split-lines.ensures.rest c.split-lines.ensures.done c.split-lines.ensures.closure (λ x b q k. search (rules, tests))) c.in_ok-names.was c.next.ensures.steps in
    let q = take_next p c.in_ok-values.was c.next-2.ensures.steps in
    rw (c.from_residual-in_err-event_names.ensures, few_pieces s _ (take_none q c.in_err-event_names.was c.next-3.ensures.steps) (omega arith))

pub returns-then-ne : goal.returns-then-ne
unfolding opening_in set_up_names event_names
returns-then-ne c =
    let s = c.args.s.now in
    let p = take_next (of_text _ s c.split-lines.ensures.rest c.split-lines.ensures.done c.split-lines.ensures.closure (λ x b q k. search (rules, tests))) c.in_ok-names.was c.next.ensures.steps in
    let q = take_next p c.in_ok-values.was c.next-2.ensures.steps in
    let z = take_next q c.in_ok-event_names.was c.next-3.ensures.steps in
    rw (no_names s _ _ _ _ z.all_is (differ _ _ _ _ c.ne.ensures c.as_slice.ensures c.if-ne.true))

pub returns-then-ne-2 : goal.returns-then-ne-2
unfolding opening_in set_up_names event_names
returns-then-ne-2 c =
    let s = c.args.s.now in
    let p = take_next (of_text _ s c.split-lines.ensures.rest c.split-lines.ensures.done c.split-lines.ensures.closure (λ x b q k. search (rules, tests))) c.in_ok-names.was c.next.ensures.steps in
    let q = take_next p c.in_ok-values.was c.next-2.ensures.steps in
    let z = take_next q c.in_ok-event_names.was c.next-3.ensures.steps in
    rw (no_event_names s _ _ _ _ z.all_is (differ _ _ _ _ c.ne-2.ensures c.as_slice-2.ensures c.if-ne-2.true))

pub returns-in_err-v : goal.returns-in_err-v
unfolding opening_in set_up_names event_names
returns-in_err-v c =
    let s = c.args.s.now in
    let p = take_next (of_text _ s c.split-lines.ensures.rest c.split-lines.ensures.done c.split-lines.ensures.closure (λ x b q k. search (rules, tests))) c.in_ok-names.was c.next.ensures.steps in
    let q = take_next p c.in_ok-values.was c.next-2.ensures.steps in
    let z = take_next q c.in_ok-event_names.was c.next-3.ensures.steps in
    rw (by_values s _ _ _ _ z.all_is (agree _ _ _ _ c.ne.ensures c.as_slice.ensures c.if-ne.false) (agree _ _ _ _ c.ne-2.ensures c.as_slice-2.ensures c.if-ne-2.false), ← c.in_err-v.ensures, c.from_residual-in_err-v.ensures) refl

pub returns : goal.returns
unfolding opening_in set_up_names event_names
returns c =
    let s = c.args.s.now in
    let p = take_next (of_text _ s c.split-lines.ensures.rest c.split-lines.ensures.done c.split-lines.ensures.closure (λ x b q k. search (rules, tests))) c.in_ok-names.was c.next.ensures.steps in
    let q = take_next p c.in_ok-values.was c.next-2.ensures.steps in
    let z = take_next q c.in_ok-event_names.was c.next-3.ensures.steps in
    let n : c.next_line.result ≡ three_lines s = c.next_line.ensures ∙ sym (lines_end s _ _ _ _ z.all_is).1 in
    rw (
      by_values s _ _ _ _ z.all_is (agree _ _ _ _ c.ne.ensures c.as_slice.ensures c.if-ne.false) (agree _ _ _ _ c.ne-2.ensures c.as_slice-2.ensures c.if-ne-2.false),
      n,
      ← c.in_ok-v.ensures,
    )
    refl
