-- `joining::from_this` meets its contract: the row is placed, and nothing else changes.
-- Assumes nothing.
use Rattle.std.proofs.Common.{ap, ◌∙◌}
use Rattle.excerpt.specs.Excerpts.{put_back}
use Rattle.joining.proofs.Laws.{joined_this}
use Rattle.joining.proofs.from_this.Goals as goal

pub returns-clause-result_value : goal.returns-clause-result_value
returns-clause-result_value c =
    λ a w. ap (put_back a) c.with_edit.ensures ∙ joined_this c.args.station c.args.sequence a c.args.x w _ (c.kept_context-row.ensures a w)
