-- `alone::join` meets its contract: 14, or the action's answer with its packets written.
-- Assumes nothing.
use mathlib.Core.Path.{◌≡◌, sym, ap, ◌∙◌}
use mathlib.Core.Bool.{true}
use mathlib.Core.List.{List}
use Rattle.std.specs.Prelude.{Option, Ok, Err}
use Rattle.structs.specs.declared.AccessPoint.{AccessPoint}
use Rattle.access_point.specs.Outside.{with_record}
use Prim.Native.Nat.{ℕ}
use Rattle.machine.specs.Stations.{Station}
use Rattle.structs.specs.declared.LoneAccessPoint.{LoneAccessPoint}
use Rattle.record.specs.Valid.{valid_lone_record}
use Rattle.access_point.proofs.Outsides.{usable}
use Rattle.actions.specs.Done.{Done, joining_of, join_of}
use Rattle.alone.specs.declared.Outcome.{Outcome}
use Rattle.alone.specs.Told.{told_of, reply_with, old_named, join_alone}
use Rattle.alone.specs.Front.{Posted, posted_of, posted_into, tell}
use Rattle.alone.proofs.Sizes.{decided_sends}
use Rattle.alone.proofs.Within.{few_points, seen}
use native.Mathlib.Omega.{arith}
use Rattle.answers.proofs.Numbers.{refusal_above}
use Rattle.alone.proofs.Acts.{tell_done, tell_refused, not_valid, join_told, posted_refused}
use Rattle.alone.proofs.join.Goals as goal

-- what is told of it
told : (l : LoneAccessPoint) → valid_lone_record l ≡ true → (s : Station) (n : ℕ) (old : Option ℕ) (c b : List ℕ) (d : Done)
    → d ≡ join_of l.number l.ap_count l.timeout l.resend_limit s n old c l.point
    → (p : Posted) → p ≡ posted_into d.answer d.sent d.given_up b → tell l d p ≡ join_alone l s n old c b
told l v s n old c b d e p f = ap (tell l d) f ∙ join_told l v s n old c b d e

pub returns-then-not-valid_lone_at : goal.returns-then-not-valid_lone_at
unfolding join_alone
returns-then-not-valid_lone_at c =
    ap (λ (o : Outcome). told_of o c.args.buffer.now) c.answered.ensures
    ∙ not_valid c.args.lone _ _ c.args.buffer.now (sym c.valid_lone_at.ensures ∙ c.if-not-valid_lone_at.true)

pub of-x-requires : goal.of-x-requires
of-x-requires c = (usable c.args.lone (sym c.valid_lone_at.ensures ∙ c.if-not-valid_lone_at.false)).associations

pub join_excerpt-requires : goal.join_excerpt-requires
join_excerpt-requires c = few_points c.args.lone (sym c.valid_lone_at.ensures ∙ c.if-not-valid_lone_at.false)

pub post_joined-reply-requires : goal.post_joined-reply-requires
unfolding join_of
post_joined-reply-requires c =
    let l = c.args.lone in
    let v : valid_lone_record l ≡ true = sym c.valid_lone_at.ensures ∙ c.if-not-valid_lone_at.false in
    decided_sends _ _ _ _ _ (ap (λ (d : Done). d.sent) (c.in-Ok.ensures.result_value l.point (seen l v _ c.well_formed.0.1.1.0 c.args.station.now c.of-x.result c.of-x.ensures)))

pub store-requires : goal.store-requires
store-requires c =
    let l = c.args.lone in
    let v : valid_lone_record l ≡ true = sym c.valid_lone_at.ensures ∙ c.if-not-valid_lone_at.false in
    ((usable l v).associations, c.in-Ok.ensures.allowed l.point (seen l v _ c.well_formed.0.1.1.0 c.args.station.now c.of-x.result c.of-x.ensures))

pub returns-in-Err : goal.returns-in-Err
returns-in-Err c =
    let a = c.args in
    let l = a.lone in
    let v : valid_lone_record l ≡ true = sym c.valid_lone_at.ensures ∙ c.if-not-valid_lone_at.false in
    let d : Done = joining_of l.point (Err c.in-Err.r) in
    let j : d ≡ join_of l.number l.ap_count l.timeout l.resend_limit a.station.now a.sequence (old_named a.old) a.context.now l.point =
    c.in-Err.ensures.result_value l.point (seen l v _ c.well_formed.0.1.1.0 a.station.now c.of-x.result c.of-x.ensures)
    ∙ ap (λ (o : Option ℕ). join_of l.number l.ap_count l.timeout l.resend_limit a.station.now a.sequence o a.context.now l.point) c.old_named.ensures in
    let q : Posted = posted_of (reply_with d.answer) a.buffer.now in
    let n : d.answer ≡ 0 → ⊥ = λ z. omega (arith, z, refusal_above c.in-Err.r) in
    ap (λ (o : Outcome). told_of o a.buffer.now) c.answered-in-Err.ensures
    ∙ tell_refused l d q n
    ∙ told l v a.station.now a.sequence (old_named a.old) a.context.now a.buffer.now d j q (posted_refused d.answer d.sent d.given_up a.buffer.now n)

pub returns-then-reply-eq0 : goal.returns-then-reply-eq0
returns-then-reply-eq0 c =
    let a = c.args in
    let l = a.lone in
    let v : valid_lone_record l ≡ true = sym c.valid_lone_at.ensures ∙ c.if-not-valid_lone_at.false in
    let d : Done = joining_of l.point (Ok c.in-Ok.j) in
    let j : d ≡ join_of l.number l.ap_count l.timeout l.resend_limit a.station.now a.sequence (old_named a.old) a.context.now l.point =
    c.in-Ok.ensures.result_value l.point (seen l v _ c.well_formed.0.1.1.0 a.station.now c.of-x.result c.of-x.ensures)
    ∙ ap (λ (o : Option ℕ). join_of l.number l.ap_count l.timeout l.resend_limit a.station.now a.sequence o a.context.now l.point) c.old_named.ensures in
    let q : Posted = posted_of c.post_joined-reply.result c.post_joined-reply.new.buffer in
    ap (λ (p : AccessPoint). told_of (record { lone = with_record p l; reply = q.reply }) q.buffer) c.store.ensures
    ∙ tell_done l d q c.if-reply-eq0.true
    ∙ told l v a.station.now a.sequence (old_named a.old) a.context.now a.buffer.now d j q c.post_joined-reply.ensures

pub returns-else-reply-eq0 : goal.returns-else-reply-eq0
returns-else-reply-eq0 c =
    let a = c.args in
    let l = a.lone in
    let v : valid_lone_record l ≡ true = sym c.valid_lone_at.ensures ∙ c.if-not-valid_lone_at.false in
    let d : Done = joining_of l.point (Ok c.in-Ok.j) in
    let j : d ≡ join_of l.number l.ap_count l.timeout l.resend_limit a.station.now a.sequence (old_named a.old) a.context.now l.point =
    c.in-Ok.ensures.result_value l.point (seen l v _ c.well_formed.0.1.1.0 a.station.now c.of-x.result c.of-x.ensures)
    ∙ ap (λ (o : Option ℕ). join_of l.number l.ap_count l.timeout l.resend_limit a.station.now a.sequence o a.context.now l.point) c.old_named.ensures in
    let q : Posted = posted_of c.post_joined-reply.result c.post_joined-reply.new.buffer in
    tell_refused l d q c.if-reply-eq0.false
    ∙ told l v a.station.now a.sequence (old_named a.old) a.context.now a.buffer.now d j q c.post_joined-reply.ensures
