-- The arrays of a network's record have their sizes, as its type says.
-- Assumes nothing.
use mathlib.Core.List.{List, [], ◌∷◌}
use mir.Val.{Val}
use base.Fml.{Fml}
use denote.Array.{each}
use denote.Shadow.{shadow}
use denote.Laws.{Is}
use denote.Struct.Declared.{row}
use Rattle.lists.specs.Places.{All, nil, cons}
use Rattle.structs.specs.contracts.AccessPoint as A
use Rattle.record.proofs.Sizes.{association_slots, move_slots}
use Rattle.structs.specs.contracts.Network as N
use Rattle.structs.specs.declared.Network.{Network}
use Rattle.network.specs.Sizes.{Sized}

-- what the type says of each element of an array
pub each_all : {X : Type 0} {P : X → Type 0} (own : X → List Val → Fml) (xs : List X) (us : List Val)
    → ((x : X) (u : Val) → shadow (own x (u ∷ [])) → P x) → shadow (each X own xs us) → All P xs
each_all own [] us h s = nil
each_all own (x ∷ xs) [] h s = absurd s
each_all own (x ∷ xs) (u ∷ us) h s = cons (h x u s.0) (each_all own xs us h s.1)

module _ (w : Network) (vs : List Val) (g : Is (row N.the_type) w vs) where
  pub sized : Sized w
  sized =
      let a = g.1.1.1.1.1.0 in
      record {
        points = a.1.0.1;
        each = each_all (A.the_row).own_val w.points a.0 (λ x u s. record { associations = association_slots x (u ∷ []) s; moves = move_slots x (u ∷ []) s }) a.1.1;
        air = g.1.1.1.1.1.1.0.1.1.0.1.0.1;
      }
