-- `alone::post_joined` meets its contract: what is sent has its sizes.
-- Assumes nothing.
use Rattle.alone.proofs.Sizes.{join_packed}
use Rattle.alone.proofs.post_joined.Goals as goal

pub post-requires : goal.post-requires
post-requires c = join_packed c.args.j _ c.well_formed.1.0 c.requires
