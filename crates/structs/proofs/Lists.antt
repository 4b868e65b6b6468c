-- A list of a record that is put back as it was got.
-- Assumes nothing.
use Prim.Native.Nat.{ℕ, ◌≤◌}
use mathlib.Core.Path.{◌≡◌}
use mathlib.Core.List.{List}
use lib.ListN.{length}
use Rattle.slots.proofs.Laws.{kept}
use Rattle.structs.specs.declared.Association.{Association}
use Rattle.structs.specs.declared.Move.{Move}
use Rattle.structs.specs.declared.InFlight.{InFlight}
use Rattle.structs.specs.declared.Associations.{Associations}
use Rattle.structs.specs.declared.Moves.{Moves}
use Rattle.structs.specs.declared.InFlights.{InFlights}
use Rattle.structs.specs.Blanks.{no_association, no_move, no_in_flight}
use Rattle.structs.specs.Lists.{get_associations, put_associations, get_moves, put_moves, get_in_flight, put_in_flight}

pub associations_kept : (t : Associations) → t.count ≤ length t.items → put_associations t (get_associations t) ≡ t
associations_kept t h = kept (λ (xs : List Association) (n : ℕ). record { items = xs; count = n }) no_association t.count t.items h

pub moves_kept : (t : Moves) → t.count ≤ length t.items → put_moves t (get_moves t) ≡ t
moves_kept t h = kept (λ (xs : List Move) (n : ℕ). record { items = xs; count = n }) no_move t.count t.items h

pub in_flight_kept : (t : InFlights) → t.count ≤ length t.items → put_in_flight t (get_in_flight t) ≡ t
in_flight_kept t h = kept (λ (xs : List InFlight) (n : ℕ). record { items = xs; count = n }) no_in_flight t.count t.items h
