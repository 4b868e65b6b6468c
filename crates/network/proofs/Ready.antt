-- What a loop that holds a record in locals of its own keeps from one event to the next: its arrays have their sizes, its elements
-- are typed, and 14 does not apply.
-- Assumes nothing.
use Prim.Native.Nat.{suc, ◌≤◌}
use mathlib.Core.Bool.{true}
use mathlib.Core.Path.{◌≡◌, refl, sym, ap, ◌∙◌}
use mathlib.Core.List.{List, [], ◌∷◌, map}
use native.Mathlib.Omega.{arith}
use lib.ListN.{length, take, length-map}
use mir.Val.{Val}
use denote.Laws.{Is}
use denote.Struct.Declared.{row}
use Rattle.lists.specs.Places.{All, nil, cons}
use Rattle.machine.specs.AccessPoint as machine
use Rattle.machine.specs.Network as floor
use Rattle.machine.specs.Events.{Event, Formed, step}
use Rattle.machine.specs.Valid.{valid_network}
use Rattle.machine.specs.Moves.{Open}
use Rattle.machine.proofs.Limits.{Valid}
use Rattle.machine.proofs.Valid.{valid_step}
use Rattle.machine.proofs.Renaming.{map_open}
use Rattle.machine.proofs.Refusal14.{MoveTyped, PointTyped, NetworkTyped, valid_in, valid_kept}
use Rattle.machine.proofs.Runs.{rename_point, rename_network, nameless}
use Rattle.structs.specs.declared.AccessPoint.{AccessPoint}
use Rattle.structs.specs.Blanks.{no_association, no_move}
use Rattle.record.specs.Lens.{bare, put_point}
use Rattle.slots.proofs.Over.{length_over}
use Rattle.record.proofs.LensLaws.{Fits}
use Rattle.structs.specs.contracts.Network as N
use Rattle.structs.specs.declared.Network.{Network}
use Rattle.structs.specs.Blanks.{no_in_flight}
use Rattle.network.specs.Lens.{put_points, get, put}
use Rattle.network.specs.Events.{valid_network_record, Reply, reply_of, event_of}
use Rattle.network.proofs.LensLaws.{no_name, get_put, Small, SmallNetwork, NetworkFits}
use Rattle.network.specs.Sizes.{PointSized, Sized}
use Rattle.network.proofs.Lent.{valid_fits, got_count, valid_got, event_valid, event_kept}
use Rattle.network.proofs.Sizes.{sized}
use Rattle.network.proofs.Typed.{typed}
use Rattle.network.proofs.Reached.{small}

pub record Ready (w : Network) : Type 0 where
  pub sized : Sized w
  pub typed : NetworkTyped (get w)
  pub valid : valid_network_record w ≡ true

-- a record that was handed over, to which 14 does not apply
pub ready : (w : Network) (vs : List Val) → Is (row N.the_type) w vs → valid_network_record w ≡ true → Ready w
ready w vs g v = record { sized = sized w vs g; typed = typed w vs g; valid = v }

pub ready_fits : (w : Network) → Ready w → NetworkFits w
ready_fits w h = valid_fits w h.sized h.valid

-- What is put back has the sizes that were there

point_sized : (a : AccessPoint) (p : machine.AccessPoint) → PointSized a → Fits a → Small p → PointSized (put_point a p)
unfolding put_point
point_sized a p z f s =
    let m : length (map bare p.moves) ≤ length a.moves.items = omega (arith, length-map p.moves bare, s.moves, z.moves) in
    record {
      associations = length_over no_association a.associations.count p.associations a.associations.items f.associations (omega (arith, s.associations, z.associations)) ∙ z.associations;
      moves = length_over no_move a.moves.count (map bare p.moves) a.moves.items f.moves m ∙ z.moves;
    }

points_sized : (xs : List AccessPoint) (ps : List machine.AccessPoint) → All PointSized xs → All Fits (take (length ps) xs) → All Small ps → All PointSized (put_points xs ps)
unfolding put_points
points_sized xs [] z f s = z
points_sized [] (p ∷ ps) z f s = nil
points_sized (x ∷ xs) (p ∷ ps) (cons z zs) (cons f fs) (cons s ss) = cons (point_sized x p z f s) (points_sized xs ps zs fs ss)

points_length : (xs : List AccessPoint) (ps : List machine.AccessPoint) → length (put_points xs ps) ≡ length xs
unfolding put_points
points_length xs [] = refl
points_length [] (p ∷ ps) = refl
points_length (x ∷ xs) (p ∷ ps) = ap suc (points_length xs ps)

put_sized : (w : Network) (f : floor.Network) → Sized w → NetworkFits w → length f.points ≡ w.ap_count → SmallNetwork f → Sized (put w f)
unfolding put
put_sized w f z h e s =
    record {
      points = points_length w.points f.points ∙ z.points;
      each = points_sized w.points f.points z.each (rw e h.points) s.points;
      air = length_over no_in_flight w.in_flight.count f.in_flight w.in_flight.items h.air (omega (arith, s.air, z.air)) ∙ z.air;
    }

-- Names are no part of what the types say

moves_typed : (ms : List Open) → All MoveTyped ms → All MoveTyped (map (map_open no_name (λ c. c)) ms)
moves_typed [] h = nil
moves_typed (m ∷ ms) (cons h hs) = cons (record { station = h.station; identifier = h.identifier }) (moves_typed ms hs)

points_typed : (ps : List machine.AccessPoint) → All PointTyped ps → All PointTyped (map (rename_point no_name) ps)
unfolding rename_point
points_typed [] h = nil
points_typed (p ∷ ps) (cons h hs) = cons (record { associations = h.associations; moves = moves_typed p.moves h.moves; next = h.next }) (points_typed ps hs)

nameless_typed : (f : floor.Network) → NetworkTyped f → NetworkTyped (nameless f)
unfolding nameless rename_network
nameless_typed f h = record { points = points_typed f.points h.points; air = h.air }

-- every event with any arguments
pub ready_event : (w : Network) (e : Event) → Ready w → Formed e → Ready (event_of w e).network
unfolding reply_of
ready_event w e h f =
    let z : NetworkFits w = ready_fits w h in
    let g : valid_network (get w) ≡ true = sym (valid_got w z) ∙ h.valid in
    let v : Valid ⊥ (length (get w).points) (step (get w) 0 e).network = valid_step (valid_in (get w) h.typed g).1 0 e f in
    let n : length (step (get w) 0 e).network.points ≡ w.ap_count = v.count ∙ got_count w z in
    let q : (event_of w e).network ≡ put w (step (get w) 0 e).network = ap (λ (x : Reply). x.network) (event_valid w e h.valid) in
    let t : get (put w (step (get w) 0 e).network) ≡ nameless (step (get w) 0 e).network = get_put w (step (get w) 0 e).network (omega (arith, n, z.count)) in
    record {
      sized = rw q (put_sized w (step (get w) 0 e).network h.sized z n (small v));
      typed = rw (q, t) (nameless_typed (step (get w) 0 e).network (valid_kept (get w) h.typed g 0 e f).0);
      valid = event_kept w e z h.typed f h.valid;
    }
