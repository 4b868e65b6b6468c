-- `joining::kept_context` meets its contract: the association there numbered anew, or a new one, is the machine's.
-- Assumes nothing.
use Rattle.std.proofs.Common.{◌∙◌, arith}
use Rattle.structs.specs.Lists.{get_associations}
use Rattle.excerpt.proofs.Laws.{at_is, count_is, row_is}
use Rattle.joining.proofs.Laws.{kept_row, new_row}
use Rattle.joining.proofs.kept_context.Goals as goal

pub returns-then-x : goal.returns-then-x
returns-then-x c =
    λ a w.
    let x = c.args.x in
    let l = count_is c.args.station a x w in
    c.renumbered.ensures
    ∙ kept_row c.args.station c.args.sequence (get_associations a.associations) x.at x.row (at_is c.args.station a x w) (omega arith) (row_is c.args.station a x w)

pub returns : goal.returns
returns c =
    λ a w.
    let x = c.args.x in
    let l = count_is c.args.station a x w in
    c.new_association.ensures
    ∙ new_row c.args.station c.args.sequence (get_associations a.associations) x.at (at_is c.args.station a x w) (omega arith)
