-- What a search of an access point's table looks for.
use Rattle.std.specs.Prelude.{ℕ, Bool, List}
use Rattle.structs.specs.declared.Association.{Association}
use Rattle.machine.specs.Stations.{same}

-- whether a row is the station's
abbrev pub is_of : List ℕ → Association → Bool
is_of s r = same s r.station
