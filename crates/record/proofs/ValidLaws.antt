-- What a record that 14 does not apply to is like, and the test of it in two parts.
-- Assumes nothing.
use Prim.Native.Nat.{ℕ, zero, suc, ◌<◌, ◌≤◌}
use mathlib.Core.Path.{◌≡◌, refl, sym}
use mathlib.Core.Bool.{Bool, true, false, ◌&&◌}
use mathlib.Core.List.{List, [], ◌∷◌, map}
use native.Mathlib.Omega.{arith}
use native.Mathlib.Nat.{not-suc-le-zero, le_of_suc-le-suc}
use borrow.Author.Tests.{leb-true, le-leb}
use lib.Dec.{leb}
use lib.ListN.{length, get_or, length-map}
use Rattle.lists.specs.Places.{every}
use Rattle.lists.proofs.Choices.{and_left, and_right}
use Rattle.structs.specs.declared.Association.{Association}
use Rattle.machine.specs.Valid.{valid_association, distinct, valid_move, valid_point}
use Rattle.structs.specs.declared.AccessPoint.{AccessPoint}
use Rattle.record.specs.Lens.{named, get_point}
use Rattle.structs.specs.Lists.{get_associations, get_moves}
use Rattle.record.specs.Valid.{valid_record, Usable}
use lib.Seq.{length-take-le}

-- the test of the associations, and that of the moves where the AP count is k
abbrev pub associations_ok : AccessPoint → Bool
associations_ok a =
    leb a.associations.count 16
    && (every valid_association (get_associations a.associations) && distinct (get_associations a.associations))

abbrev pub moves_ok : ℕ → AccessPoint → Bool
moves_ok k a = leb a.moves.count 8 && every (valid_move k) (map named (get_moves a.moves))

regroup : (p q l m e d v : Bool) → (p ≡ true → l ≡ true) → (q ≡ true → m ≡ true)
    → p && (q && (l && (e && (d && (m && v))))) ≡ (p && (e && d)) && (q && v)
regroup false q l m e d v hl hm = refl
regroup true false l m e d v hl hm = sym (none (e && d))
  where
    none : (b : Bool) → b && false ≡ false
    none true = refl
    none false = refl
regroup true true l m e d v hl hm = rw (hl refl, hm refl) (assoc e d v)
  where
    assoc : (e d v : Bool) → e && (d && v) ≡ (e && d) && v
    assoc true d v = refl
    assoc false d v = refl

-- the two tests together are that of the record
pub in_two : (k : ℕ) (a : AccessPoint) → length a.associations.items ≡ 16 → length a.moves.items ≡ 8 → valid_record k a ≡ associations_ok a && moves_ok k a
unfolding valid_record valid_point get_point
in_two k a la lm =
    regroup (leb a.associations.count 16) (leb a.moves.count 8)
    (leb (length (get_associations a.associations)) 16) (leb (length (map named (get_moves a.moves))) 8)
    (every valid_association (get_associations a.associations)) (distinct (get_associations a.associations))
    (every (valid_move k) (map named (get_moves a.moves)))
    (λ e. le-leb (length (get_associations a.associations)) 16 (omega (arith, length-take-le a.associations.count a.associations.items (omega (arith, leb-true a.associations.count 16 e)), leb-true a.associations.count 16 e)))
    (λ e. le-leb (length (map named (get_moves a.moves))) 8 (omega (arith, length-map (get_moves a.moves) named, length-take-le a.moves.count a.moves.items (omega (arith, leb-true a.moves.count 8 e)), leb-true a.moves.count 8 e)))

-- what the test says
pub valid_says : (k : ℕ) (a : AccessPoint) → valid_record k a ≡ true → Usable a
unfolding valid_record valid_point get_point
valid_says k a e =
    let p = and_right (leb a.associations.count 16) _ e in
    let q = and_right (leb a.moves.count 8) _ p in
    let u = and_right (leb (length (get_associations a.associations)) 16) _ q in
    let v = and_right (every valid_association (get_associations a.associations)) _ u in
    record {
      associations = leb-true a.associations.count 16 (and_left _ _ e);
      moves = leb-true a.moves.count 8 (and_left _ _ p);
      limits = and_left _ _ u;
      distinct_stations = and_left _ _ v;
    }

-- an element of a list of which every element passes a test
pub every_at : {A : Type 0} (p : A → Bool) (xs : List A) (i : ℕ) (d : A) → every p xs ≡ true → i < length xs → p (get_or xs i d) ≡ true
unfolding every
every_at p [] i d e h = absurd (not-suc-le-zero h)
every_at p (x ∷ xs) zero d e h = and_left (p x) (every p xs) e
every_at p (x ∷ xs) (suc i) d e h = every_at p xs i d (and_right (p x) (every p xs) e) (le_of_suc-le-suc h)

-- the context of an association within its limits
pub context_within : (rs : List Association) (i : ℕ) (d : Association) → every valid_association rs ≡ true → i < length rs → (get_or rs i d).context_len ≤ 64
unfolding valid_association
context_within rs i d e h =
    leb-true (get_or rs i d).context_len 64 (and_right (leb (get_or rs i d).sequence 4095) _ (every_at valid_association rs i d e h))
