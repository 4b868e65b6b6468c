-- `joining::from_nowhere` meets its contract: the row is placed, and the next identifier is used.
-- Assumes nothing.
use Rattle.std.proofs.Common.{ap, ◌∙◌, refl, ◌+◌, ◌%◌, ◌^◌}
use Rattle.excerpt.specs.declared.Excerpt.{Excerpt}
use Rattle.excerpt.specs.Excerpts.{put_back}
use Rattle.joining.proofs.Laws.{opening, joined_nowhere}
use Rattle.joining.proofs.from_nowhere.Goals as goal

pub returns-clause-result_value : goal.returns-clause-result_value
returns-clause-result_value c =
    λ a w.
    ap (λ (y : Excerpt). put_back a (opening y y.moves ((c.args.x.next_identifier + 1) % 2 ^ 16) y.opened)) c.with_edit-y.ensures
    ∙ joined_nowhere c.args.station c.args.sequence a c.args.x w c.args.context.now _ _ c.new_association-row.ensures refl
