-- `script_reader::read_event` meets its contract: a line that is too long, has not six fields or names no event says nothing.
-- Assumes nothing.
use Rattle.std.proofs.Common.{sym, ◌∙◌, refl, rules, tests, arith}
use Rattle.script_reader.specs.Heard.{heard_in, context_to}
use Rattle.script_reader.proofs.Pieces.{take_next, take_none, take_some, take_all, of_line}
use Rattle.script_reader.proofs.Saying.{nothing_said, long, other, no_kind, by_kind, last_short}
use Rattle.script_reader.proofs.read_event.Goals as goal

pub returns-then-l-gt-LONGEST_LINE : goal.returns-then-l-gt-LONGEST_LINE
returns-then-l-gt-LONGEST_LINE c =
    let x = nothing_said c.args.l.now c.args.context.now _ refl (long c.args.l.now (omega arith)) in
    record { result_value = x.0; context_after = x.1 }

pub returns-in_err-at : goal.returns-in_err-at
returns-in_err-at c =
    let l = c.args.l.now in
    let p₁ = take_next (of_line _ l c.split-fields.ensures.rest c.split-fields.ensures.done c.split-fields.ensures.closure (λ x b q k. search (rules, tests))) c.in_ok-name.was c.next.ensures.steps in
    let x = nothing_said l c.args.context.now _ c.from_residual-in_err-at.ensures (other l _ (take_none p₁ c.in_err-at.was c.next-2.ensures.steps) (λ e. omega (arith, e))) in
    record { result_value = x.0; context_after = x.1 }

pub returns-in_err-station : goal.returns-in_err-station
returns-in_err-station c =
    let l = c.args.l.now in
    let p₁ = take_next (of_line _ l c.split-fields.ensures.rest c.split-fields.ensures.done c.split-fields.ensures.closure (λ x b q k. search (rules, tests))) c.in_ok-name.was c.next.ensures.steps in
    let p₂ = take_next p₁ c.in_ok-at.was c.next-2.ensures.steps in
    let x = nothing_said l c.args.context.now _ c.from_residual-in_err-station.ensures (other l _ (take_none p₂ c.in_err-station.was c.next-3.ensures.steps) (λ e. omega (arith, e))) in
    record { result_value = x.0; context_after = x.1 }

pub returns-in_err-sequence : goal.returns-in_err-sequence
returns-in_err-sequence c =
    let l = c.args.l.now in
    let p₁ = take_next (of_line _ l c.split-fields.ensures.rest c.split-fields.ensures.done c.split-fields.ensures.closure (λ x b q k. search (rules, tests))) c.in_ok-name.was c.next.ensures.steps in
    let p₂ = take_next p₁ c.in_ok-at.was c.next-2.ensures.steps in
    let p₃ = take_next p₂ c.in_ok-station.was c.next-3.ensures.steps in
    let x = nothing_said l c.args.context.now _ c.from_residual-in_err-sequence.ensures (other l _ (take_none p₃ c.in_err-sequence.was c.next-4.ensures.steps) (λ e. omega (arith, e))) in
    record { result_value = x.0; context_after = x.1 }

pub returns-in_err-old : goal.returns-in_err-old
returns-in_err-old c =
    let l = c.args.l.now in
    let p₁ = take_next (of_line _ l c.split-fields.ensures.rest c.split-fields.ensures.done c.split-fields.ensures.closure (λ x b q k. search (rules, tests))) c.in_ok-name.was c.next.ensures.steps in
    let p₂ = take_next p₁ c.in_ok-at.was c.next-2.ensures.steps in
    let p₃ = take_next p₂ c.in_ok-station.was c.next-3.ensures.steps in
    let p₄ = take_next p₃ c.in_ok-sequence.was c.next-4.ensures.steps in
    let x = nothing_said l c.args.context.now _ c.from_residual-in_err-old.ensures (other l _ (take_none p₄ c.in_err-old.was c.next-5.ensures.steps) (λ e. omega (arith, e))) in
    record { result_value = x.0; context_after = x.1 }

pub returns-in_err-given : goal.returns-in_err-given
returns-in_err-given c =
    let l = c.args.l.now in
    let p₁ = take_next (of_line _ l c.split-fields.ensures.rest c.split-fields.ensures.done c.split-fields.ensures.closure (λ x b q k. search (rules, tests))) c.in_ok-name.was c.next.ensures.steps in
    let p₂ = take_next p₁ c.in_ok-at.was c.next-2.ensures.steps in
    let p₃ = take_next p₂ c.in_ok-station.was c.next-3.ensures.steps in
    let p₄ = take_next p₃ c.in_ok-sequence.was c.next-4.ensures.steps in
    let p₅ = take_next p₄ c.in_ok-old.was c.next-5.ensures.steps in
    let x = nothing_said l c.args.context.now _ c.from_residual-in_err-given.ensures (other l _ (take_none p₅ c.in_err-given.was c.next-6.ensures.steps) (λ e. omega (arith, e))) in
    record { result_value = x.0; context_after = x.1 }

pub returns-then-is_some : goal.returns-then-is_some
returns-then-is_some c =
    let l = c.args.l.now in
    let p₁ = take_next (of_line _ l c.split-fields.ensures.rest c.split-fields.ensures.done c.split-fields.ensures.closure (λ x b q k. search (rules, tests))) c.in_ok-name.was c.next.ensures.steps in
    let p₂ = take_next p₁ c.in_ok-at.was c.next-2.ensures.steps in
    let p₃ = take_next p₂ c.in_ok-station.was c.next-3.ensures.steps in
    let p₄ = take_next p₃ c.in_ok-sequence.was c.next-4.ensures.steps in
    let p₅ = take_next p₄ c.in_ok-old.was c.next-5.ensures.steps in
    let p₆ = take_next p₅ c.in_ok-given.was c.next-6.ensures.steps in
    let p = take_some p₆ (sym c.is_some.ensures ∙ c.if-is_some.true) c.next-7.ensures.steps in
    let x = nothing_said l c.args.context.now _ refl (other l _ p.1.all_is (λ e. omega (arith, e))) in
    record { result_value = x.0; context_after = x.1 }

pub returns-in_err-kind : goal.returns-in_err-kind
returns-in_err-kind c =
    let l = c.args.l.now in
    let p₁ = take_next (of_line _ l c.split-fields.ensures.rest c.split-fields.ensures.done c.split-fields.ensures.closure (λ x b q k. search (rules, tests))) c.in_ok-name.was c.next.ensures.steps in
    let p₂ = take_next p₁ c.in_ok-at.was c.next-2.ensures.steps in
    let p₃ = take_next p₂ c.in_ok-station.was c.next-3.ensures.steps in
    let p₄ = take_next p₃ c.in_ok-sequence.was c.next-4.ensures.steps in
    let p₅ = take_next p₄ c.in_ok-old.was c.next-5.ensures.steps in
    let p₆ = take_next p₅ c.in_ok-given.was c.next-6.ensures.steps in
    let e = take_all p₆ (sym c.is_some.ensures ∙ c.if-is_some.false) c.next-7.ensures.steps in
    let x = nothing_said l c.args.context.now _ c.from_residual-in_err-kind.ensures (no_kind l _ _ _ _ _ _ (omega arith) e (sym c.in_err-kind.ensures)) in
    record { result_value = x.0; context_after = x.1 }

pub read_fields-requires : goal.read_fields-requires
read_fields-requires c =
    let l = c.args.l.now in
    let p₁ = take_next (of_line _ l c.split-fields.ensures.rest c.split-fields.ensures.done c.split-fields.ensures.closure (λ x b q k. search (rules, tests))) c.in_ok-name.was c.next.ensures.steps in
    let p₂ = take_next p₁ c.in_ok-at.was c.next-2.ensures.steps in
    let p₃ = take_next p₂ c.in_ok-station.was c.next-3.ensures.steps in
    let p₄ = take_next p₃ c.in_ok-sequence.was c.next-4.ensures.steps in
    let p₅ = take_next p₄ c.in_ok-old.was c.next-5.ensures.steps in
    let p₆ = take_next p₅ c.in_ok-given.was c.next-6.ensures.steps in
    let d = take_all p₆ (sym c.is_some.ensures ∙ c.if-is_some.false) c.next-7.ensures.steps in
    omega (arith, last_short l _ _ _ _ _ _ d)

pub returns : goal.returns
unfolding heard_in context_to
returns c =
    let l = c.args.l.now in
    let p₁ = take_next (of_line _ l c.split-fields.ensures.rest c.split-fields.ensures.done c.split-fields.ensures.closure (λ x b q k. search (rules, tests))) c.in_ok-name.was c.next.ensures.steps in
    let p₂ = take_next p₁ c.in_ok-at.was c.next-2.ensures.steps in
    let p₃ = take_next p₂ c.in_ok-station.was c.next-3.ensures.steps in
    let p₄ = take_next p₃ c.in_ok-sequence.was c.next-4.ensures.steps in
    let p₅ = take_next p₄ c.in_ok-old.was c.next-5.ensures.steps in
    let p₆ = take_next p₅ c.in_ok-given.was c.next-6.ensures.steps in
    let f = take_all p₆ (sym c.is_some.ensures ∙ c.if-is_some.false) c.next-7.ensures.steps in
    rw (by_kind l _ _ _ _ _ _ (omega arith) f _ (sym c.in_ok-kind.ensures)) (record { result_value = c.read_fields.ensures.result_value; context_after = c.read_fields.ensures.context_after })
