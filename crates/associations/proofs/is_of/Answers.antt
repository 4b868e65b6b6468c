-- `associations::is_of` meets its contract.
-- Assumes nothing.
use mathlib.Core.Path.{◌∙◌}
use Rattle.machine.proofs.Stations.{same_octets}
use Rattle.associations.proofs.is_of.Goals as goal

pub returns : goal.returns
returns c = c.eq.ensures ∙ same_octets c.args.station c.args.row.now.station
