-- Refusal 14 of a network's record: it goes before every other number and changes nothing, and its test of a record that was put is
-- the machine's test of what was put.
-- Assumes nothing.
use Prim.Native.Nat.{ℕ, ◌≤◌}
use mathlib.Core.Bool.{Bool, true, false, ◌&&◌}
use mathlib.Core.Path.{◌≡◌, refl, sym, ap, ◌∙◌}
use mathlib.Core.List.{List, [], ◌∷◌, map}
use native.Mathlib.Nat.{not-suc-le-zero, le_of_suc-le-suc}
use lib.Dec.{leb}
use lib.ListN.{length, take, length-map}
use Rattle.lists.specs.Places.{every}
use Rattle.lists.proofs.Choices.{and_false}
use Rattle.machine.specs.Moves.{Open}
use Rattle.machine.specs.AccessPoint as machine
use Rattle.machine.specs.Network as floor
use Rattle.machine.specs.Events.{Event}
use Rattle.machine.specs.Valid.{valid_association, distinct, valid_move, valid_point, valid_network}
use Rattle.machine.proofs.Renaming.{map_open}
use Rattle.machine.proofs.Runs.{rename_point}
use Rattle.structs.specs.declared.AccessPoint.{AccessPoint}
use Rattle.record.specs.Lens.{bare, put_point}
use Rattle.record.specs.Valid.{valid_record}
use Rattle.structs.specs.declared.Network.{Network}
use Rattle.network.specs.Lens.{put_points, put}
use Rattle.network.specs.Events.{valid_network_record, refused, event_of}
use Rattle.structs.specs.Blanks.{no_in_flight}
use Rattle.slots.proofs.Over.{take_over}
use Rattle.network.proofs.LensLaws.{no_name, point_got}

-- "also gets 14, before every other number"
pub gets_14 : (w : Network) (e : Event) → valid_network_record w ≡ false → event_of w e ≡ refused 14 w
unfolding event_of
gets_14 w e v = rw v

-- the used lengths are tested once more
twice_tested : (p q e d v : Bool) → p && (q && (p && (e && (d && (q && v))))) ≡ p && (e && (d && (q && v)))
twice_tested false q e d v = refl
twice_tested true true e d v = refl
twice_tested true false e d v = sym (ap (λ (b : Bool). e && b) (and_false d) ∙ and_false e)

moves_renamed : (k : ℕ) (ms : List Open) → every (valid_move k) (map (map_open no_name (λ c. c)) ms) ≡ every (valid_move k) ms
unfolding every valid_move
moves_renamed k [] = refl
moves_renamed k (m ∷ ms) = rw (moves_renamed k ms)

point_tested : (k : ℕ) (x : AccessPoint) (p : machine.AccessPoint) → valid_record k (put_point x p) ≡ valid_point k p
unfolding valid_record
point_tested k x p =
    ap (λ (m : machine.AccessPoint). leb (put_point x p).associations.count 16 && (leb (put_point x p).moves.count 8 && valid_point k m)) (point_got x p)
    ∙ (unfold put_point valid_point rename_point in
    rw (length-map p.moves bare, length-map p.moves (map_open no_name (λ c. c)), moves_renamed k p.moves)
    (twice_tested (leb (length p.associations) 16) (leb (length p.moves) 8) (every valid_association p.associations) (distinct p.associations) (every (valid_move k) p.moves)))

points_tested : (k : ℕ) (xs : List AccessPoint) (ps : List machine.AccessPoint) → length ps ≤ length xs
    → every (valid_record k) (take (length ps) (put_points xs ps)) ≡ every (valid_point k) ps
unfolding every put_points
points_tested k xs [] l = refl
points_tested k [] (p ∷ ps) l = absurd (not-suc-le-zero l)
points_tested k (x ∷ xs) (p ∷ ps) l = rw (point_tested k x p, points_tested k xs ps (le_of_suc-le-suc l))

pub valid_put : (w : Network) (f : floor.Network) → length f.points ≤ length w.points → valid_network_record (put w f) ≡ valid_network f
unfolding valid_network_record valid_network put
valid_put w f l =
    rw (points_tested (length f.points) w.points f.points l, take_over no_in_flight w.in_flight.count f.in_flight w.in_flight.items)
    (refl)
