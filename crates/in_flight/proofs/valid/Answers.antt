-- `in_flight::valid` meets its contract.
-- Assumes nothing.
use mathlib.Core.Path.{sym, ◌∙◌}
use borrow.Author.Tests.{le-leb}
use Rattle.lists.proofs.Every.{every_list}
use Rattle.machine.specs.Valid.{valid_in_flight}
use Rattle.structs.specs.Lists.{get_in_flight}
use Rattle.in_flight.proofs.valid.Goals as goal

pub returns-then-t-le64 : goal.returns-then-t-le64
returns-then-t-le64 c =
    let t = c.args.t.now in
    rw (le-leb _ _ c.if-t-le64.true, sym (every_list (valid_in_flight c.args.ap_count) (get_in_flight t)))
    (c.all_valid.ensures ∙ rw c.used.ensures.elements)
