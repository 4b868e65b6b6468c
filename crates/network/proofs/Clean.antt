-- Nothing is left behind: in what is reached from a new network every unused slot is blank and every unused octet zero.
-- Assumes nothing.
use Prim.Native.Nat.{ℕ, zero, suc, ◌-◌}
use mathlib.Core.Bool.{true}
use mathlib.Core.Path.{◌≡◌, refl, ap, ◌∙◌}
use mathlib.Core.List.{List, [], ◌∷◌, map}
use native.Mathlib.Omega.{arith}
use lib.ListN.{length, take, drop, replicate}
use lib.Seq.{length-take-le, drop_at}
use Rattle.lists.specs.Places.{All, nil, cons}
use Rattle.lists.proofs.Every.{all_map, all_replicate}
use Rattle.machine.specs.Associations.{padded}
use Rattle.machine.specs.AccessPoint as machine
use Rattle.machine.specs.Network as floor
use Rattle.machine.specs.Events.{Event, Formed}
use Rattle.machine.specs.Valid.{valid_setup}
use Rattle.machine.specs.History.{run, begin}
use Rattle.machine.proofs.Limits.{ArrayIn, PointIn, Valid}
use Rattle.machine.proofs.Valid.{setup_in, valid_from_new}
use Rattle.machine.proofs.Refusal14.{points_all}
use Rattle.slots.specs.Lists.{over}
use Rattle.structs.specs.Blanks.{no_association, no_move}
use Rattle.record.specs.Lens.{bare, put_point}
use Rattle.slots.proofs.Over.{take_over, unused_blank}
use Rattle.structs.specs.Blanks.{no_in_flight}
use Rattle.network.specs.Lens.{put_points, put, new_point, new_network}
use Rattle.network.specs.Events.{run_of}
use Rattle.network.specs.Clean.{BlankPast, CleanPoint, Clean}
use Rattle.network.proofs.Reached.{reached}

-- an array that is blanks past k
blanks : {A : Type 0} (b : A) (k m : ℕ) (xs : List A) → drop k xs ≡ replicate m b → BlankPast b k xs
blanks b k m xs e = rw e (all_replicate m b refl)

over_blanks : {A : Type 0} (b : A) (N : ℕ) (xs : List A) → BlankPast b (length xs) (over b 0 xs (replicate N b))
over_blanks b N xs = blanks b (length xs) (N - length xs) (over b 0 xs (replicate N b)) (unused_blank b N xs)

-- the octets past those used
array_clean : (n k : ℕ) (xs : List ℕ) → ArrayIn (Unit {0}) n k xs → BlankPast 0 k xs
unfolding padded
array_clean n k xs h =
    let e : length (take k xs) ≡ k = length-take-le k xs (omega (arith, h.used, h.size)) in
    blanks 0 k (n - length (take k xs)) xs
    (ap (drop k) (h.clean tt) ∙ drop_at (take k xs) (replicate (n - length (take k xs)) 0) k e)

-- one access point

point_clean : {n : ℕ} (p : machine.AccessPoint) → PointIn (Unit {0}) n p → CleanPoint (put_point new_point p)
unfolding put_point new_point
point_clean p h =
    record {
      associations = over_blanks no_association 16 p.associations;
      contexts = rw (take_over no_association new_point.associations.count p.associations new_point.associations.items) (all_map (λ r k. array_clean 64 r.context_len r.context k.context) h.associations);
      moves = over_blanks no_move 8 (map bare p.moves);
    }

points_clean : {n : ℕ} (m : ℕ) (ps : List machine.AccessPoint) → All (PointIn (Unit {0}) n) ps → All CleanPoint (take (length ps) (put_points (replicate m new_point) ps))
unfolding put_points
points_clean m [] nil = nil
points_clean zero (p ∷ ps) h = nil
points_clean (suc m) (p ∷ ps) (cons h hs) = cons (point_clean p h) (points_clean m ps hs)

points_beyond : (m : ℕ) (ps : List machine.AccessPoint) → BlankPast new_point (length ps) (put_points (replicate m new_point) ps)
unfolding put_points
points_beyond m [] = all_replicate m new_point refl
points_beyond zero (p ∷ ps) = nil
points_beyond (suc m) (p ∷ ps) = points_beyond m ps

-- the network

put_clean : (n t r : ℕ) (f : floor.Network) → Valid (Unit {0}) n f → Clean (put (new_network n t r) f)
unfolding put new_network
put_clean n t r f v =
    record {
      points = points_clean 8 f.points (points_all f v);
      beyond = points_beyond 8 f.points;
      in_flight = over_blanks no_in_flight 64 f.in_flight;
      packets = rw (take_over no_in_flight (new_network n t r).in_flight.count f.in_flight (new_network n t r).in_flight.items) (all_map (λ p k. array_clean 82 p.len p.octets k.octets) v.air);
    }

pub clean : (n t r : ℕ) → valid_setup n t r ≡ true → (es : List Event) → All Formed es → Clean (run_of (new_network n t r) es)
unfolding valid_setup
clean n t r setup es zs =
    rw (reached n t r setup es zs) (put_clean n t r (run (begin n t r) es).network (valid_from_new n t r (setup_in n t r setup) es zs))
