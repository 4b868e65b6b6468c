-- Laws of get and put: what was put is got, a network put over another is as if put at once, and what was got is put back. Over a
-- new network the second has no condition but the sizes.
-- Assumes nothing.
use Prim.Native.Nat.{ℕ, zero, suc, ◌≤◌}
use mathlib.Core.Path.{◌≡◌, refl, ap}
use mathlib.Core.List.{List, [], ◌∷◌, map}
use mathlib.Core.Logic.{◌⊎◌}
use native.Mathlib.Omega.{arith}
use native.Mathlib.Nat.{not-suc-le-zero, le_of_suc-le-suc}
use lib.ListN.{length, take, replicate, length-map}
use lib.Seq.{length-take-le}
use Rattle.lists.specs.Places.{All, nil, cons}
use Rattle.machine.specs.Moves.{Open}
use Rattle.machine.specs.AccessPoint as machine
use Rattle.machine.specs.Network as floor
use Rattle.machine.proofs.Renaming.{map_open}
use Rattle.machine.proofs.Runs.{rename_point, rename_network, nameless}
use Rattle.structs.specs.declared.AccessPoint.{AccessPoint}
use Rattle.structs.specs.Blanks.{no_association, no_move}
use Rattle.record.specs.Lens.{named, bare, get_point, put_point}
use Rattle.slots.proofs.Over.{take_over, over_over, over_blank}
use Rattle.record.proofs.LensLaws.{Fits, point_kept}
use Rattle.structs.specs.declared.Network.{Network}
use Rattle.structs.specs.Blanks.{no_in_flight}
use Rattle.network.specs.Lens.{put_points, get, put, new_point, new_network}
use Rattle.structs.proofs.Lists.{in_flight_kept}

-- a record's moves have no names
abbrev pub no_name : ℕ → ℕ
no_name n = 0

named_bare : (ms : List Open) → map named (map bare ms) ≡ map (map_open no_name (λ c. c)) ms
unfolding bare named
named_bare [] = refl
named_bare (m ∷ ms) = ap (◌∷◌ (record { move = m.move; name = 0 })) (named_bare ms)

-- What was put is got

pub point_got : (a : AccessPoint) (p : machine.AccessPoint) → get_point (put_point a p) ≡ rename_point no_name p
unfolding get_point put_point rename_point
point_got a p = rw (take_over no_association a.associations.count p.associations a.associations.items, take_over no_move a.moves.count (map bare p.moves) a.moves.items, named_bare p.moves)

points_got : (xs : List AccessPoint) (ps : List machine.AccessPoint) → length ps ≤ length xs
    → map get_point (take (length ps) (put_points xs ps)) ≡ map (rename_point no_name) ps
unfolding put_points
points_got xs [] l = refl
points_got [] (p ∷ ps) l = absurd (not-suc-le-zero l)
points_got (x ∷ xs) (p ∷ ps) l = rw (point_got x p, points_got xs ps (le_of_suc-le-suc l))

pub get_put : (w : Network) (f : floor.Network) → length f.points ≤ length w.points → get (put w f) ≡ nameless f
unfolding get put nameless rename_network
get_put w f l = rw (points_got w.points f.points l, take_over no_in_flight w.in_flight.count f.in_flight w.in_flight.items)

-- Put over another. Where n slots were used, k then and l at last, k used none that was not used before and is free at last.

abbrev pub Follows : ℕ → ℕ → ℕ → Type 0
Follows n k l = (k ≤ n) ⊎ (k ≤ l)

pub record PointFollows (a : AccessPoint) (p q : machine.AccessPoint) : Type 0 where
  pub associations : Follows a.associations.count (length p.associations) (length q.associations)
  pub moves : Follows a.moves.count (length (map bare p.moves)) (length (map bare q.moves))

-- point by point, as many at last as then
abbrev pub PointsFollow : List AccessPoint → List machine.AccessPoint → List machine.AccessPoint → Type 0
PointsFollow xs [] [] = Unit {0}
PointsFollow xs [] (q ∷ qs) = ⊥
PointsFollow xs (p ∷ ps) [] = ⊥
PointsFollow [] (p ∷ ps) (q ∷ qs) = Unit {0}
PointsFollow (x ∷ xs) (p ∷ ps) (q ∷ qs) = PointFollows x p q × PointsFollow xs ps qs

pub record NetworkFollows (w : Network) (f g : floor.Network) : Type 0 where
  pub points : PointsFollow w.points f.points g.points
  pub air : Follows w.in_flight.count (length f.in_flight) (length g.in_flight)

point_twice : (a : AccessPoint) (p q : machine.AccessPoint) → PointFollows a p q → put_point (put_point a p) q ≡ put_point a q
unfolding put_point
point_twice a p q z =
    rw (over_over no_association a.associations.count p.associations q.associations a.associations.items z.associations, over_over no_move a.moves.count (map bare p.moves) (map bare q.moves) a.moves.items z.moves)

points_twice : (xs : List AccessPoint) (ps qs : List machine.AccessPoint) → PointsFollow xs ps qs → put_points (put_points xs ps) qs ≡ put_points xs qs
unfolding put_points
points_twice xs [] [] h = refl
points_twice xs [] (q ∷ qs) h = absurd h
points_twice xs (p ∷ ps) [] h = absurd h
points_twice [] (p ∷ ps) (q ∷ qs) h = refl
points_twice (x ∷ xs) (p ∷ ps) (q ∷ qs) h = rw (point_twice x p q h.0, points_twice xs ps qs h.1)

pub put_put : (w : Network) (f g : floor.Network) → NetworkFollows w f g → put (put w f) g ≡ put w g
unfolding put
put_put w f g z =
    rw (points_twice w.points f.points g.points z.points, over_over no_in_flight w.in_flight.count f.in_flight g.in_flight w.in_flight.items z.air)

-- Over a new network

-- within the sizes of the record
pub record Small (p : machine.AccessPoint) : Type 0 where
  pub associations : length p.associations ≤ 16
  pub moves : length p.moves ≤ 8

point_anew : (p q : machine.AccessPoint) → Small p → Small q → put_point (put_point new_point p) q ≡ put_point new_point q
unfolding put_point new_point
point_anew p q h k =
    rw (over_blank no_association 16 p.associations q.associations h.associations k.associations, over_blank no_move 8 (map bare p.moves) (map bare q.moves) (rw (length-map p.moves bare) h.moves) (rw (length-map q.moves bare) k.moves))

points_anew : (m : ℕ) (ps qs : List machine.AccessPoint) → length ps ≡ length qs → All Small ps → All Small qs
    → put_points (put_points (replicate m new_point) ps) qs ≡ put_points (replicate m new_point) qs
unfolding put_points
points_anew m [] [] e nil nil = refl
points_anew m [] (q ∷ qs) e h k = absurd (omega arith)
points_anew m (p ∷ ps) [] e h k = absurd (omega arith)
points_anew zero (p ∷ ps) (q ∷ qs) e h k = refl
points_anew (suc m) (p ∷ ps) (q ∷ qs) e (cons h hs) (cons k ks) = rw (point_anew p q h k, points_anew m ps qs (omega arith) hs ks)

pub record SmallNetwork (f : floor.Network) : Type 0 where
  pub points : All Small f.points
  pub air : length f.in_flight ≤ 64

pub put_new : (n t r : ℕ) (f g : floor.Network) → length f.points ≡ length g.points → SmallNetwork f → SmallNetwork g
    → put (put (new_network n t r) f) g ≡ put (new_network n t r) g
unfolding put new_network
put_new n t r f g e h k =
    rw (points_anew 8 f.points g.points e h.points k.points, over_blank no_in_flight 64 f.in_flight g.in_flight h.air k.air)

-- What was got is put back

pub points_kept : (n : ℕ) (xs : List AccessPoint) → All Fits (take n xs) → put_points xs (map get_point (take n xs)) ≡ xs
unfolding put_points
points_kept zero xs h = refl
points_kept (suc n) [] h = refl
points_kept (suc n) (x ∷ xs) (cons h hs) = rw (point_kept x h, points_kept n xs hs)

-- used lengths within the arrays
pub record NetworkFits (w : Network) : Type 0 where
  pub count : w.ap_count ≤ length w.points
  pub points : All Fits (take w.ap_count w.points)
  pub air : w.in_flight.count ≤ length w.in_flight.items

-- "nothing changes" is exact
pub put_get : (w : Network) → NetworkFits w → put w (get w) ≡ w
unfolding get put
put_get w z =
    rw (length-map (take w.ap_count w.points) get_point, length-take-le w.ap_count w.points z.count, points_kept w.ap_count w.points z.points, in_flight_kept w.in_flight z.air)

-- Put reads no names

bare_renamed : (ms : List Open) → map bare (map (map_open no_name (λ c. c)) ms) ≡ map bare ms
unfolding bare
bare_renamed [] = refl
bare_renamed (m ∷ ms) = ap (◌∷◌ m.move) (bare_renamed ms)

points_nameless : (xs : List AccessPoint) (ps : List machine.AccessPoint) → put_points xs (map (rename_point no_name) ps) ≡ put_points xs ps
unfolding put_points put_point rename_point
points_nameless xs [] = refl
points_nameless [] (p ∷ ps) = refl
points_nameless (x ∷ xs) (p ∷ ps) = rw (bare_renamed p.moves, points_nameless xs ps)

pub put_nameless : (w : Network) (f : floor.Network) → put w (nameless f) ≡ put w f
unfolding put nameless rename_network
put_nameless w f = rw (length-map f.points (rename_point no_name), points_nameless w.points f.points)
