-- `script_fields::read_number` meets its contract.
-- Assumes nothing.
use Rattle.std.proofs.Common.{◌≡◌, ◌<◌, ◌≤◌, get_or, length, true, sym, ◌∙◌, arith}
use Rattle.std.proofs.lemmas.Grind.{common_steps}
use Rattle.std.proofs.lemmas.Option.{gets}
use Rattle.script.specs.Fields.{is_plain}
use Rattle.script_fields.proofs.Numbers.{empty_none, zero_none, plain, no_digit, too_large, digit_more, all_read}
use Rattle.script_fields.proofs.read_number.Goals as goal

pub returns-in_err-first : goal.returns-in_err-first
returns-in_err-first c =
    let n : length c.args.f.now ≡ 0 = grind (arith, common_steps, gets) in
    c.from_residual.ensures ∙ sym (empty_none c.args.f.now n)

pub returns-then-f-gt1 : goal.returns-then-f-gt1
returns-then-f-gt1 c =
    let e : get_or c.args.f.now 0 0 ≡ 48 = grind (arith, common_steps, gets) in
    sym (zero_none c.args.f.now e (omega arith))

pub returns-then-not-is_ascii_digit : goal.returns-then-not-is_ascii_digit
returns-then-not-is_ascii_digit c = sym (no_digit c.args.f.now c.loop-x.x-index c.loop-x.v c.loop-x.invariant (omega arith) (sym c.is_ascii_digit.ensures.value ∙ c.if-not-is_ascii_digit.true))

pub returns-in_err-checked_mul : goal.returns-in_err-checked_mul
returns-in_err-checked_mul c = c.from_residual-in_err-checked_mul.ensures ∙ sym (too_large c.args.f.now c.loop-x.x-index c.loop-x.v c.loop-x.invariant (omega arith) (omega (arith, c.in_err-checked_mul.ensures)))

pub returns-in_err-v : goal.returns-in_err-v
returns-in_err-v c = c.from_residual-in_err-v.ensures ∙ sym (too_large c.args.f.now c.loop-x.x-index c.loop-x.v c.loop-x.invariant (omega arith) (grind (arith, c.in_err-v.ensures, c.in_ok-checked_mul.ensures)))

pub loop-x-preserved : goal.loop-x-preserved
loop-x-preserved c = digit_more c.args.f.now c.loop-x.x-index c.loop-x.v c.loop-x.invariant (omega arith) _ (sym c.is_ascii_digit.ensures.value ∙ c.if-not-is_ascii_digit.false) (grind (arith, c.in_ok-v.ensures, c.in_ok-checked_mul.ensures)) (grind (arith, c.in_ok-v.ensures))

pub returns : goal.returns
returns c =
    let n : 0 < length c.args.f.now = grind (arith, common_steps, gets) in
    let h : get_or c.args.f.now 0 0 ≡ 48 → length c.args.f.now ≤ 1 = grind (arith, common_steps, gets) in
    let p : is_plain c.args.f.now ≡ true = plain c.args.f.now n h in
    sym (all_read c.args.f.now c.loop-x.x-index c.loop-x.v c.loop-x.invariant (omega arith) p)
