-- `moves::valid` meets its contract.
-- Assumes nothing.
use mathlib.Core.Path.{sym, ◌∙◌}
use borrow.Author.Tests.{le-leb}
use Rattle.lists.proofs.Every.{every_map, every_list}
use Rattle.machine.specs.Valid.{valid_move}
use Rattle.record.specs.Lens.{named}
use Rattle.structs.specs.Lists.{get_moves}
use Rattle.structs.specs.declared.Move.{Move}
use Rattle.moves.proofs.valid.Goals as goal

pub returns-then-t-le8 : goal.returns-then-t-le8
returns-then-t-le8 c =
    let t = c.args.t.now in
    rw (le-leb _ _ c.if-t-le8.true, every_map named (valid_move c.args.ap_count) (get_moves t), sym (every_list (λ (m : Move). valid_move c.args.ap_count (named m)) (get_moves t)))
    (c.all_valid.ensures ∙ rw c.used.ensures.elements)
