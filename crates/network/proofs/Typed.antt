-- What the types of a network's record grant of it, and what follows with no other condition: an event on a record to which 14 does
-- not apply leaves it so.
-- Assumes nothing.
use Prim.Native.Nat.{ℕ, ◌<◌}
use mathlib.Core.Bool.{true}
use mathlib.Core.Path.{◌≡◌}
use mathlib.Core.List.{List, [], ◌∷◌, map}
use native.Mathlib.Omega.{arith}
use mir.Val.{Val}
use denote.Builtin as builtin
use denote.Laws.{Is}
use denote.Struct.Declared.{row}
use Rattle.lists.specs.Places.{All, nil, cons}
use Rattle.lists.proofs.Every.{all_take}
use Rattle.structs.specs.contracts.Association as R
use Rattle.structs.specs.contracts.Move as M
use Rattle.structs.specs.contracts.InFlight as F
use Rattle.structs.specs.declared.Association.{Association}
use Rattle.structs.specs.declared.Move.{Move}
use Rattle.structs.specs.declared.InFlight.{InFlight}
use Rattle.machine.specs.Events.{Event, Octet, Formed}
use Rattle.machine.proofs.Refusal14.{AssociationTyped, MoveTyped, PointTyped, InFlightTyped, NetworkTyped}
use Rattle.structs.specs.contracts.AccessPoint as A
use Rattle.structs.specs.declared.AccessPoint.{AccessPoint}
use Rattle.record.specs.Lens.{named, get_point}
use Rattle.structs.specs.contracts.Network as N
use Rattle.structs.specs.declared.Network.{Network}
use Rattle.network.specs.Lens.{get}
use Rattle.network.specs.Events.{valid_network_record, event_of}
use Rattle.network.proofs.LensLaws.{NetworkFits}
use Rattle.network.proofs.Lent.{valid_fits, event_kept}
use Rattle.network.proofs.Sizes.{each_all, sized}

all_through : {X Y : Type 0} {P : Y → Type 0} (f : X → Y) {xs : List X} → All (λ (x : X). P (f x)) xs → All P (map f xs)
all_through f nil = nil
all_through f (cons h hs) = cons h (all_through f hs)

octet : (x : ℕ) (u : Val) → Is builtin.u8 x (u ∷ []) → Octet x
octet x u s = s.1

-- the elements

association_typed : (r : Association) (u : Val) → Is (row R.the_type) r (u ∷ []) → AssociationTyped r
association_typed r u g =
    let s = g.1.1.0 in
    let c = g.1.1.1.1.1.0 in
    record {
      station = record { size = s.1.0.1; octets = each_all (builtin.u8).own_val r.station s.0 octet s.1.1 };
      size = c.1.0.1;
      octets = each_all (builtin.u8).own_val r.context c.0 octet c.1.1;
    }

move_typed : (m : Move) (u : Val) → Is (row M.the_type) m (u ∷ []) → MoveTyped (named m)
unfolding named
move_typed m u g =
    let s = g.1.1.0 in
    let i : m.identifier < 65536 = g.1.1.1.1.1.0.1 in
    record {
      station = record { size = s.1.0.1; octets = each_all (builtin.u8).own_val m.station s.0 octet s.1.1 };
      identifier = omega arith;
    }

in_flight_typed : (p : InFlight) (u : Val) → Is (row F.the_type) p (u ∷ []) → InFlightTyped p
in_flight_typed p u g =
    let o = g.1.1.1.1.1.0 in
    record { size = o.1.0.1; octets = each_all (builtin.u8).own_val p.octets o.0 octet o.1.1 }

-- an access point and the network

point_typed : (a : AccessPoint) (u : Val) → Is (row A.the_type) a (u ∷ []) → PointTyped (get_point a)
unfolding get_point
point_typed a u g =
    let r = g.1.1.0.1.1.0 in
    let m = g.1.1.1.0.1.1.0 in
    let i : a.next_identifier < 65536 = g.1.1.1.1.0.1 in
    record {
      associations = all_take a.associations.count (each_all (R.the_row).own_val a.associations.items r.0 association_typed r.1.1);
      moves = all_through named (all_take a.moves.count (each_all (M.the_row).own_val a.moves.items m.0 move_typed m.1.1));
      next = omega arith;
    }

module _ (w : Network) (vs : List Val) (g : Is (row N.the_type) w vs) where
  pub typed : NetworkTyped (get w)
  unfolding get
  typed =
      let a = g.1.1.1.1.1.0 in
      let f = g.1.1.1.1.1.1.0.1.1.0 in
      record {
        points = all_through get_point (all_take w.ap_count (each_all (A.the_row).own_val w.points a.0 point_typed a.1.1));
        air = all_take w.in_flight.count (each_all (F.the_row).own_val w.in_flight.items f.0 in_flight_typed f.1.1);
      }

  pub fits : valid_network_record w ≡ true → NetworkFits w
  fits v = valid_fits w (sized w vs g) v

  -- every event with any arguments keeps a record to which 14 does not apply so
  pub stays_valid : (e : Event) → Formed e → valid_network_record w ≡ true → valid_network_record (event_of w e).network ≡ true
  stays_valid e z v = event_kept w e (fits v) typed z v
