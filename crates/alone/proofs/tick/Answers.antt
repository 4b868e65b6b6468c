-- `alone::tick` meets its contract: 14, or the notices that are sent again, written.
-- Assumes nothing.
use mathlib.Core.Path.{sym, ap, ◌∙◌}
use Rattle.access_point.proofs.Outsides.{usable}
use mathlib.Core.Path.{◌≡◌}
use mathlib.Core.Bool.{true}
use native.Mathlib.Omega.{arith}
use Rattle.std.specs.Prelude.{Ok, Err}
use Rattle.answers.proofs.Numbers.{refusal_above}
use Rattle.record.specs.Valid.{valid_lone_record}
use Rattle.actions.specs.Done.{Done, done_of, tick_of}
use Rattle.alone.specs.declared.Outcome.{Outcome}
use Rattle.alone.specs.Told.{told_of, reply_with, tick_alone}
use Rattle.alone.specs.Front.{posted_of, tell}
use Rattle.alone.proofs.Sizes.{decided_sends}
use Rattle.alone.proofs.Within.{moves_within}
use Rattle.alone.proofs.Acts.{tell_refused, posted_refused, not_valid, tick_told}
use Rattle.alone.proofs.tick.Goals as goal

pub returns-then-not-valid_lone_at : goal.returns-then-not-valid_lone_at
unfolding tick_alone
returns-then-not-valid_lone_at c =
    ap (λ (o : Outcome). told_of o c.args.buffer.now) c.answered.ensures
    ∙ not_valid c.args.lone _ _ c.args.buffer.now (sym c.valid_lone_at.ensures ∙ c.if-not-valid_lone_at.true)

pub tick-requires : goal.tick-requires
tick-requires c =
    let v : valid_lone_record c.args.lone ≡ true = sym c.valid_lone_at.ensures ∙ c.if-not-valid_lone_at.false in
    record { usable = usable c.args.lone v; moves_value = moves_within c.args.lone v }

pub told-requires : goal.told-requires
unfolding tick_of
told-requires c = decided_sends _ _ _ _ _ (ap (λ (d : Done). d.sent) c.in-Ok.ensures)

pub returns-in-Ok : goal.returns-in-Ok
returns-in-Ok c =
    c.told.ensures
    ∙ tick_told c.args.lone (sym c.valid_lone_at.ensures ∙ c.if-not-valid_lone_at.false) c.args.buffer.now (done_of c.args.lone.point (Ok c.in-Ok.t)) c.in-Ok.ensures

pub returns-in-Err : goal.returns-in-Err
returns-in-Err c =
    let a = c.args in
    let l = a.lone in
    let d : Done = done_of l.point (Err c.in-Err.r) in
    let n : d.answer ≡ 0 → ⊥ = λ z. omega (arith, z, refusal_above c.in-Err.r) in
    ap (λ (o : Outcome). told_of o a.buffer.now) c.answered-in-Err.ensures
    ∙ tell_refused l d (posted_of (reply_with d.answer) a.buffer.now) n
    ∙ ap (tell l d) (posted_refused d.answer d.sent d.given_up a.buffer.now n)
    ∙ tick_told l (sym c.valid_lone_at.ensures ∙ c.if-not-valid_lone_at.false) a.buffer.now d c.in-Err.ensures
