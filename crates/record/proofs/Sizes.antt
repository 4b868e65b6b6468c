-- The arrays of a record have their sizes, as its type says.
-- Assumes nothing.
use mathlib.Core.Path.{◌≡◌}
use mathlib.Core.List.{List}
use native.Mathlib.Omega.{arith}
use denote.Laws.{Is}
use denote.Struct.Declared.{row}
use mir.Val.{Val}
use lib.ListN.{length}
use Rattle.structs.specs.contracts.AccessPoint as A
use Rattle.structs.specs.declared.AccessPoint.{AccessPoint}
use Rattle.record.specs.Valid.{Usable}
use Rattle.record.proofs.LensLaws.{Fits}

module _ (a : AccessPoint) (vs : List Val) (g : Is (row A.the_type) a vs) where
  pub association_slots : length a.associations.items ≡ 16
  association_slots = g.1.1.0.1.1.0.1.0.1

  pub move_slots : length a.moves.items ≡ 8
  move_slots = g.1.1.1.0.1.1.0.1.0.1

  pub fits : Usable a → Fits a
  fits u = record { associations = omega (arith, association_slots, u.associations); moves = omega (arith, move_slots, u.moves) }
