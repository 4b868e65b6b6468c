-- `script_reader::read_values` meets its contract: a line that is too long or has not three fields is bad.
-- Assumes nothing.
use Rattle.std.proofs.Common.{sym, ◌∙◌, rules, tests, arith}
use Rattle.script.specs.SetUpLines.{limited}
use Rattle.script_reader.proofs.Pieces.{take_next, take_none, take_some, take_all, of_line}
use Rattle.script_reader.proofs.ValuesLine.{no_values, long, other, no_first, no_second, no_third, all_values}
use Rattle.script_reader.proofs.read_values.Goals as goal
use Rattle.script_reader.proofs.read_values.Goals.{then-is_some-via-then-is_some, then-is_some-via-else-is_some+then-not-valid_setup}

pub returns-then-l-gt-LONGEST_LINE : goal.returns-then-l-gt-LONGEST_LINE
returns-then-l-gt-LONGEST_LINE c = rw (long c.args.l.now (omega arith))

pub returns-in_err-aps : goal.returns-in_err-aps
returns-in_err-aps c =
    let l = c.args.l.now in
    let p = take_next (of_line _ l c.split-fields.ensures.rest c.split-fields.ensures.done c.split-fields.ensures.closure (λ x b q k. search (rules, tests))) c.in_ok-next.was c.next.ensures.steps in
    no_values _ _ c.from_residual-in_err-aps.ensures (no_first l _ _ p.all_is (sym c.in_err-aps.ensures))

pub returns-in_err-next-2 : goal.returns-in_err-next-2
returns-in_err-next-2 c =
    let l = c.args.l.now in
    let p = take_next (of_line _ l c.split-fields.ensures.rest c.split-fields.ensures.done c.split-fields.ensures.closure (λ x b q k. search (rules, tests))) c.in_ok-next.was c.next.ensures.steps in
    no_values _ _ c.from_residual-in_err-next-2.ensures (other l _ (take_none p c.in_err-next-2.was c.next-2.ensures.steps) (λ e. omega (arith, e)))

pub returns-in_err-timeout : goal.returns-in_err-timeout
returns-in_err-timeout c =
    let l = c.args.l.now in
    let p = take_next (of_line _ l c.split-fields.ensures.rest c.split-fields.ensures.done c.split-fields.ensures.closure (λ x b q k. search (rules, tests))) c.in_ok-next.was c.next.ensures.steps in
    let q = take_next p c.in_ok-next-2.was c.next-2.ensures.steps in
    no_values _ _ c.from_residual-in_err-timeout.ensures (no_second l _ _ (sym c.in_ok-aps.ensures) _ _ q.all_is (sym c.in_err-timeout.ensures))

pub returns-in_err-next-3 : goal.returns-in_err-next-3
returns-in_err-next-3 c =
    let l = c.args.l.now in
    let p = take_next (of_line _ l c.split-fields.ensures.rest c.split-fields.ensures.done c.split-fields.ensures.closure (λ x b q k. search (rules, tests))) c.in_ok-next.was c.next.ensures.steps in
    let q = take_next p c.in_ok-next-2.was c.next-2.ensures.steps in
    no_values _ _ c.from_residual-in_err-next-3.ensures (other l _ (take_none q c.in_err-next-3.was c.next-3.ensures.steps) (λ e. omega (arith, e)))

pub returns-in_err-resends : goal.returns-in_err-resends
returns-in_err-resends c =
    let l = c.args.l.now in
    let p = take_next (of_line _ l c.split-fields.ensures.rest c.split-fields.ensures.done c.split-fields.ensures.closure (λ x b q k. search (rules, tests))) c.in_ok-next.was c.next.ensures.steps in
    let q = take_next p c.in_ok-next-2.was c.next-2.ensures.steps in
    let z = take_next q c.in_ok-next-3.was c.next-3.ensures.steps in
    no_values _ _ c.from_residual-in_err-resends.ensures (no_third l _ _ (sym c.in_ok-aps.ensures) _ _ (sym c.in_ok-timeout.ensures) _ _ z.all_is (sym c.in_err-resends.ensures))

pub returns-then-is_some : goal.returns-then-is_some
unfolding limited
returns-then-is_some c =
    let l = c.args.l.now in
    let p = take_next (of_line _ l c.split-fields.ensures.rest c.split-fields.ensures.done c.split-fields.ensures.closure (λ x b q k. search (rules, tests))) c.in_ok-next.was c.next.ensures.steps in
    let q = take_next p c.in_ok-next-2.was c.next-2.ensures.steps in
    let z = take_next q c.in_ok-next-3.was c.next-3.ensures.steps in
    elim c.then-is_some.branch [
      | then-is_some-via-then-is_some w ↦
          let x = take_some z (sym c.is_some.ensures ∙ w.if-is_some.true) c.next-4.ensures.steps in
          rw (other l _ x.1.all_is (λ e. omega (arith, e)))
      | then-is_some-via-else-is_some+then-not-valid_setup w ↦
          let e = all_values l _ _ (sym c.in_ok-aps.ensures) _ _ (sym c.in_ok-timeout.ensures) _ _ (omega arith) (take_all z (sym c.is_some.ensures ∙ w.if-is_some.false) c.next-4.ensures.steps) (sym c.in_ok-resends.ensures) in
          rw (e, sym w.valid_setup.ensures ∙ w.if-not-valid_setup.true)
    ]

pub returns : goal.returns
unfolding limited
returns c =
    let l = c.args.l.now in
    let p = take_next (of_line _ l c.split-fields.ensures.rest c.split-fields.ensures.done c.split-fields.ensures.closure (λ x b q k. search (rules, tests))) c.in_ok-next.was c.next.ensures.steps in
    let q = take_next p c.in_ok-next-2.was c.next-2.ensures.steps in
    let z = take_next q c.in_ok-next-3.was c.next-3.ensures.steps in
    let e = all_values l _ _ (sym c.in_ok-aps.ensures) _ _ (sym c.in_ok-timeout.ensures) _ _ (omega arith) (take_all z (sym c.is_some.ensures ∙ c.if-is_some.false) c.next-4.ensures.steps) (sym c.in_ok-resends.ensures) in
    rw (e, sym c.valid_setup.ensures ∙ c.if-not-valid_setup.false)
