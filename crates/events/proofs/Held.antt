-- HELD from the last access point down, and the count of its ones.
-- Assumes nothing.
use Prim.Native.Nat.{ℕ, suc, ◌+◌, ◌-◌, ◌*◌, ◌^◌, ◌≤◌, ◌<◌}
use mathlib.Core.Path.{◌≡◌, refl, sym, ap, ◌∙◌}
use mathlib.Core.Bool.{Bool, true, false, cond}
use mathlib.Core.List.{List, [], ◌∷◌, map}
use native.Mathlib.Omega.{arith}
use native.Mathlib.Nat.{pow-suc, lt_of_lt_of_le}
use lib.Count.{ones, ones_cat, ones-le}
use lib.Dec.{ltb}
use lib.ListN.{length, get_or, take, drop, length-map, length-drop, drop_of_length-le}
use lib.Seq.{drop-cons, get_or-take, length-take-le}
use lib.Pow.{pow_mono}
use Rattle.lists.specs.Search.{index_by}
use Rattle.machine.specs.Stations.{Station}
use Rattle.machine.specs.AccessPoint as machine
use Rattle.machine.specs.Events.{holds, held_by, ones_in}
use Rattle.machine.proofs.Held as held
use Rattle.structs.specs.declared.AccessPoint.{AccessPoint}
use Rattle.record.specs.Lens.{get_point}
use Rattle.structs.specs.Lists.{get_associations}
use Rattle.associations.specs.Rows.{is_of}
use Rattle.associations.proofs.Laws.{holds_at}

-- one bit
abbrev bit_of : Bool → ℕ
bit_of b = cond b 1 0

bit_small : (b : Bool) → bit_of b < 2
bit_small true = omega arith
bit_small false = omega arith

bit_ones : (b : Bool) → ones (bit_of b) ≡ bit_of b
unfolding ones
bit_ones true = refl
bit_ones false = refl

module _ (s : Station) where
  held_bound : (ps : List machine.AccessPoint) → held_by s ps < 2 ^ length ps
  unfolding held_by
  held_bound [] = omega arith
  held_bound (p ∷ ps) = rw pow-suc (omega (arith, held_bound ps, bit_small (holds s p)))

  -- k access points take k bits
  pub held_small : (ps : List machine.AccessPoint) (k : ℕ) → length ps ≤ k → held_by s ps < 2 ^ k
  held_small ps k h = lt_of_lt_of_le (held_bound ps) (pow_mono h)

  -- A loop from the last access point down: `held` is the mask of those from i on

  -- of none
  pub held_none : (xs : List AccessPoint) → 0 ≡ held_by s (map get_point (drop (length xs) xs))
  unfolding held_by
  held_none xs = ap (λ (l : List AccessPoint). held_by s (map get_point l)) (sym (drop_of_length-le xs (omega arith)))

  -- where one is left, seven at most have their bits
  pub held_room : (i held : ℕ) (xs : List AccessPoint) → length xs ≤ 8 → 0 < i → held ≡ held_by s (map get_point (drop i xs)) → held < 128
  held_room i held xs h l e =
      let k : length (map get_point (drop i xs)) ≤ 7 = omega (arith, length-map (drop i xs) get_point, length-drop i xs) in
      omega (arith, e, held_small (map get_point (drop i xs)) 7 k)

  -- the one before i is the lowest bit of those from it on
  pub held_next : (i held r : ℕ) (xs : List AccessPoint) (d : AccessPoint) → 0 < i → i ≤ length xs → held ≡ held_by s (map get_point (drop i xs))
      → r ≡ cond (holds s (get_point (get_or xs (i - 1) d))) 1 0 + 2 * held → r ≡ held_by s (map get_point (drop (i - 1) xs))
  unfolding held_by
  held_next i held r xs d l m e q =
      let j : suc (i - 1) ≡ i = omega arith in
      let c : drop (i - 1) xs ≡ get_or xs (i - 1) d ∷ drop i xs = drop-cons xs (i - 1) d (omega arith) ∙ ap (λ (k : ℕ). get_or xs (i - 1) d ∷ drop k xs) j in
      q ∙ rw (c, e)

  -- the same of the first n alone
  pub held_next_used : (n i held r : ℕ) (xs : List AccessPoint) (d : AccessPoint) → 0 < i → i ≤ n → n ≤ length xs → held ≡ held_by s (map get_point (drop i (take n xs)))
      → r ≡ cond (holds s (get_point (get_or xs (i - 1) d))) 1 0 + 2 * held → r ≡ held_by s (map get_point (drop (i - 1) (take n xs)))
  held_next_used n i held r xs d l m k e q =
      let c : get_or (take n xs) (i - 1) d ≡ get_or xs (i - 1) d = get_or-take n xs (i - 1) d (omega arith) in
      held_next i held r (take n xs) d l (omega (arith, length-take-le n xs k)) e (q ∙ rw c)

  -- whether it has a row of the station, by the place where it was looked for
  pub holds_by : (a : AccessPoint) (j : ℕ) → j ≡ index_by (is_of s) (get_associations a.associations)
      → holds s (get_point a) ≡ ltb j (length (get_associations a.associations))
  unfolding holds get_point
  holds_by a j e = holds_at s (get_associations a.associations) ∙ rw e

  -- "TABLES counts the ones in HELD"
  counted : (ps : List machine.AccessPoint) → ones (held_by s ps) ≡ held.holders s ps
  unfolding held_by held.holders ones
  counted [] = refl
  counted (p ∷ ps) =
      let b = bit_of (holds s p) in
      let e : b + 2 * held_by s ps ≡ held_by s ps * 2 + b = omega arith in
      ap ones e
      ∙ ones_cat 1 (held_by s ps) b (bit_small (holds s p))
      ∙ rw (counted ps, bit_ones (holds s p)) (omega arith)

  pub ones_counted : (ps : List machine.AccessPoint) → ones (held_by s ps) ≡ ones_in (length ps) (held_by s ps)
  ones_counted ps = counted ps ∙ sym (held.ones_held s ps)

  -- of eight access points, eight at most
  pub ones_few : (xs : List AccessPoint) → length xs ≤ 8 → ones (held_by s (map get_point xs)) ≤ 8
  ones_few xs h =
      let k : length (map get_point xs) ≤ 8 = omega (arith, length-map xs get_point) in
      ones-le 8 (held_by s (map get_point xs)) (held_small (map get_point xs) 8 k)
