-- `floor_link::perform` meets its contract: a record that is handed over has its arrays' sizes.
-- Assumes nothing.
use Rattle.network.proofs.Sizes.{sized}
use Rattle.floor_link.proofs.perform.Goals as goal

pub act-requires : goal.act-requires
act-requires c = (sized c.args.network _ c.well_formed.0, c.requires)
