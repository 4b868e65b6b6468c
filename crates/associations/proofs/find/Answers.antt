-- `associations::find` meets its contract.
-- Assumes nothing.
use mathlib.Core.Path.{◌∙◌}
use Rattle.lists.proofs.Search.{index_position}
use Rattle.structs.specs.Lists.{get_associations}
use Rattle.associations.specs.Rows.{is_of}
use Rattle.associations.proofs.find.Goals as goal

pub returns : goal.returns
returns c =
    c.unwrap_or.ensures
    ∙ rw (c.place_of.ensures, c.used-rows.ensures.elements) (index_position (is_of c.args.station) (get_associations c.args.t.now))
