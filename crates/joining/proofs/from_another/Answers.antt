-- `joining::from_another` meets its contract: the row is placed, a move is opened, and the next identifier is used.
-- Assumes nothing.
use Rattle.std.proofs.Common.{ap, ◌∙◌, refl, ◌+◌, ◌%◌, ◌^◌}
use Rattle.excerpt.specs.declared.Excerpt.{Excerpt}
use Rattle.excerpt.specs.Excerpts.{put_back}
use Rattle.joining.proofs.Laws.{opening, joined_another}
use Rattle.joining.proofs.from_another.Goals as goal

pub returns-clause-result_value : goal.returns-clause-result_value
returns-clause-result_value c =
    let p = c.with_edit-y.ensures in
    let x = c.args.x in
    λ a w.
    ap (λ (y : Excerpt). put_back a (opening y c.push.new.self ((x.next_identifier + 1) % 2 ^ 16) ((x.opened + 1) % 2 ^ 32))) p
    ∙ joined_another c.args.station c.args.sequence a x w c.args.old c.args.setup.timeout c.args.setup.resend_limit _ _ _ _
    (c.kept_context-row.ensures a w) (rw p at c.push.ensures) refl refl
