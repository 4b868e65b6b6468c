-- `actions::join_excerpt` meets its contract: each refusal is told by the tests before it; the rest is the AP's own.
-- Assumes nothing.
use Rattle.std.proofs.Common.{Err, sym, ap, ◌∙◌}
use Rattle.std.proofs.lemmas.Result.{err_from_is_err_and}
use Rattle.excerpt.specs.Excerpts.{put_back}
use Rattle.actions.specs.Done.{joining_of}
use Rattle.actions.proofs.Laws.{join_off, join_group, join_sequence, join_context, join_done_lem}
use Rattle.actions.proofs.join_excerpt.Goals as goal
use Rattle.structs.specs.declared.Outbox.{Outbox}

pub returns-then-setup-at-clause-result_value : goal.returns-then-setup-at-clause-result_value
returns-then-setup-at-clause-result_value c =
    let q = c.args.request in
    let k = c.args.setup in
    λ a w. join_off c.args.at k.ap_count k.timeout k.resend_limit q.station q.sequence q.old c.args.context.now a c.if-setup-at.true

pub returns-then-is_group-clause-result_value : goal.returns-then-is_group-clause-result_value
returns-then-is_group-clause-result_value c =
    let q = c.args.request in
    let k = c.args.setup in
    λ a w. join_group c.args.at k.ap_count k.timeout k.resend_limit q.station q.sequence q.old c.args.context.now a c.if-setup-at.false (sym c.is_group.ensures ∙ c.if-is_group.true)

pub returns-then-request-gt4095-clause-result_value : goal.returns-then-request-gt4095-clause-result_value
returns-then-request-gt4095-clause-result_value c =
    let q = c.args.request in
    let k = c.args.setup in
    λ a w. join_sequence c.args.at k.ap_count k.timeout k.resend_limit q.station q.sequence q.old c.args.context.now a c.if-setup-at.false (sym c.is_group.ensures ∙ c.if-is_group.false) c.if-request-gt4095.true

pub returns-then-context-gt64-clause-result_value : goal.returns-then-context-gt64-clause-result_value
returns-then-context-gt64-clause-result_value c =
    let q = c.args.request in
    let k = c.args.setup in
    λ a w. join_context c.args.at k.ap_count k.timeout k.resend_limit q.station q.sequence q.old c.args.context.now a c.if-setup-at.false (sym c.is_group.ensures ∙ c.if-is_group.false) c.if-request-gt4095.false c.if-context-gt64.true

pub returns-in_err-j-clause-result_value : goal.returns-in_err-j-clause-result_value
returns-in_err-j-clause-result_value c =
    let q = c.args.request in
    let k = c.args.setup in
    let e = err_from_is_err_and c.from_residual.result c.from_residual.ensures.1 in
    λ a w.
    ap (joining_of a) (e.1 ∙ ap Err e.2)
    ∙ join_done_lem c.args.at k.ap_count k.timeout k.resend_limit q.station q.sequence q.old c.args.context.now a c.if-setup-at.false (sym c.is_group.ensures ∙ c.if-is_group.false) c.if-request-gt4095.false c.if-context-gt64.false _ (c.in_err-j.ensures.result_value a w)

pub returns : goal.returns
returns c =
    let q = c.args.request in
    let k = c.args.setup in
    let h = c.in_ok-j.ensures in record {
      result_value = λ a w.
          ap (λ (o : Outbox). record { answer = 0; point = put_back a c.in_ok-j.j.after; sent = o; given_up = 0 }) c.notice_sent.ensures
          ∙ join_done_lem c.args.at k.ap_count k.timeout k.resend_limit q.station q.sequence q.old c.args.context.now a c.if-setup-at.false (sym c.is_group.ensures ∙ c.if-is_group.false) c.if-request-gt4095.false c.if-context-gt64.false _ (h.result_value a w);
      allowed = h.allowed;
    }
