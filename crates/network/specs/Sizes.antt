-- The sizes of a network's arrays, which the types of its parts say: a function that is lent the record asks for them.
use Rattle.std.specs.Prelude.{◌≡◌, length}
use Rattle.lists.specs.Places.{All}
use Rattle.structs.specs.declared.AccessPoint.{AccessPoint}
use Rattle.structs.specs.declared.Network.{Network}

pub record PointSized (a : AccessPoint) : Type 0 where
  pub associations : length a.associations.items ≡ 16
  pub moves : length a.moves.items ≡ 8

pub record Sized (w : Network) : Type 0 where
  pub points : length w.points ≡ 8
  pub each : All PointSized w.points
  pub air : length w.in_flight.items ≡ 64
