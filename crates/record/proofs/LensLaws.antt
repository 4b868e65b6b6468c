-- Laws of get and put: what was got is put back, and a record made of its parts.
-- Assumes nothing.
use Prim.Native.Nat.{ℕ, ◌≤◌}
use mathlib.Core.Path.{◌≡◌, refl, sym, ap, ◌∙◌}
use mathlib.Core.List.{List, [], ◌∷◌, map}
use lib.ListN.{length}
use Rattle.structs.specs.declared.Association.{Association}
use Rattle.structs.specs.declared.Move.{Move}
use Rattle.machine.specs.AccessPoint as machine
use Rattle.machine.specs.AccessPoint.{with_associations}
use Rattle.structs.specs.declared.Associations.{Associations}
use Rattle.structs.specs.declared.Moves.{Moves}
use Rattle.structs.specs.declared.AccessPoint.{AccessPoint}
use Rattle.record.specs.Lens.{named, bare, get_point, put_point}
use Rattle.structs.specs.Lists.{put_associations, get_moves, put_moves}
use Rattle.structs.proofs.Lists.{associations_kept, moves_kept}

-- moves without names

pub bare_named : (ms : List Move) → map bare (map named ms) ≡ ms
unfolding bare named
bare_named [] = refl
bare_named (m ∷ ms) = ap (◌∷◌ m) (bare_named ms)

-- one access point

-- used lengths within the arrays
pub record Fits (a : AccessPoint) : Type 0 where
  pub associations : a.associations.count ≤ length a.associations.items
  pub moves : a.moves.count ≤ length a.moves.items

-- "nothing changes" is exact
pub point_kept : (a : AccessPoint) → Fits a → put_point a (get_point a) ≡ a
unfolding get_point put_point
point_kept a z =
    λ k.
    record {
      associations = associations_kept a.associations z.associations k;
      moves = (ap (put_moves a.moves) (bare_named (get_moves a.moves)) ∙ moves_kept a.moves z.moves) k;
      next_identifier = a.next_identifier;
      opened = a.opened;
      resent = a.resent;
      answered = a.answered;
      given_up = a.given_up;
    }

-- a record made of its parts is what put makes of the machine's access point: the one law behind every event at an access point
pub put_parts : (a : AccessPoint) (p : machine.AccessPoint) (t : Associations) (ms : Moves) (n o r w g : ℕ)
    → t ≡ put_associations a.associations p.associations
    → ms ≡ put_moves a.moves (map bare p.moves)
    → n ≡ p.next_identifier → o ≡ p.counts.opened → r ≡ p.counts.resent → w ≡ p.counts.answered → g ≡ p.counts.given_up
    → record { associations = t; moves = ms; next_identifier = n; opened = o; resent = r; answered = w; given_up = g } ≡ put_point a p
unfolding put_point
put_parts a p t ms n o r w g et em en eo er ew eg = rw (et, em, en, eo, er, ew, eg)

-- the moves of a record, put back as they were got
pub moves_as_got : (a : AccessPoint) → Fits a → a.moves ≡ put_moves a.moves (map bare (get_point a).moves)
unfolding get_point
moves_as_got a z = sym (rw (bare_named (get_moves a.moves)) (moves_kept a.moves z.moves))

-- other associations, and nothing else
pub put_associations_lem : (a : AccessPoint) (rs : List Association) (t : Associations) → Fits a
    → t ≡ put_associations a.associations rs
    → record { associations = t; moves = a.moves; next_identifier = a.next_identifier; opened = a.opened; resent = a.resent; answered = a.answered; given_up = a.given_up }
    ≡ put_point a (with_associations rs (get_point a))
unfolding with_associations get_point
put_associations_lem a rs t z e =
    put_parts a (with_associations rs (get_point a)) t a.moves a.next_identifier a.opened a.resent a.answered a.given_up e (moves_as_got a z) refl refl refl refl refl
