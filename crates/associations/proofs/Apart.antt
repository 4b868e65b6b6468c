-- Rows of different stations, by their places; and what is noted of the stations of the rows passed: how each one ends.
-- Assumes nothing.
use Prim.Native.Nat.{ℕ, zero, suc, ◌+◌, ◌%◌, ◌<◌}
use mathlib.Core.Path.{◌≡◌, refl, sym, ap, subst, ◌∙◌}
use mathlib.Core.Bool.{Bool, true, false, cond, not, false≢true}
use mathlib.Core.List.{List, [], ◌∷◌}
use mathlib.Core.Logic.{◌⊎◌, inl, inr}
use native.Mathlib.Nat.{not-suc-le-zero, le_of_suc-le-suc, eq-or-lt_of_le}
use native.Mathlib.Omega.{arith}
use borrow.Author.Tests.{ltb-false, not-true}
use lib.Dec.{ltb}
use lib.ListN.{length, take, get_or, set}
use lib.Seq.{length-take-le, get_or-take, get_or-set_same}
use Rattle.std.specs.Prelude.{Option, None, Some, is_some}
use Rattle.std.specs.List.{position, position_or_len}
use Rattle.std.proofs.lemmas.List.Quantifiers.{position-Some}
use Rattle.std.proofs.lemmas.List.Sums.{prefix_len_passes}
use Rattle.lists.proofs.Choices.{and_false, not_both}
use Rattle.lists.proofs.Every.{get_or_set}
use Rattle.structs.specs.declared.Association.{Association}
use Rattle.machine.specs.Stations.{same}
use Rattle.machine.specs.Associations.{sequence_of}
use Rattle.machine.specs.Valid.{distinct}
use Rattle.machine.proofs.Stations.{same_true, same_of_eq, same_of_ne}
use Rattle.associations.specs.Rows.{is_of}

-- what a read past the end of an array of rows gives, in the logic
abbrev pub past : Association
past = record { station = []; sequence = 0; context_len = 0; context = [] }

-- the station of row i
abbrev pub station_at : List Association → ℕ → List ℕ
station_at rs i = (get_or rs i past).station

-- how a station ends: the last six bits of its address
abbrev pub ending : List ℕ → ℕ
ending s = get_or s 5 0 % 64

-- no row before row i is of its station
abbrev pub Fresh : List Association → ℕ → Type 0
Fresh rs i = (j : ℕ) → j < i → station_at rs j ≡ station_at rs i → ⊥

-- no two of the first n rows are of one station
abbrev pub Apart : List Association → ℕ → Type 0
Apart rs n = (i : ℕ) → i < n → Fresh rs i

-- how each of the first n rows' stations ends is noted
abbrev pub Noted : List Association → ℕ → List Bool → Type 0
Noted rs n seen = (j : ℕ) → j < n → get_or seen (ending (station_at rs j)) false ≡ true

-- what `distinct` says of two places

none_held : (s : List ℕ) (rs : List Association) → ((k : ℕ) → k < length rs → s ≡ station_at rs k → ⊥) → is_some (sequence_of s rs) ≡ false
unfolding sequence_of
none_held s [] h = refl
none_held s (r ∷ rs) h =
    rw (same_of_ne s r.station (h 0 (omega arith))) (none_held s rs (λ k l. h (suc k) (omega arith)))

held : (s : List ℕ) (rs : List Association) (k : ℕ) → k < length rs → s ≡ station_at rs k → is_some (sequence_of s rs) ≡ true
unfolding sequence_of
held s [] k l e = absurd (not-suc-le-zero l)
held s (r ∷ rs) zero l e = rw (same_of_eq s r.station e)
held s (r ∷ rs) (suc k) l e = go (same s r.station) (held s rs k (le_of_suc-le-suc l) e)
  where
    go : (b : Bool) → is_some (sequence_of s rs) ≡ true → is_some (cond b (Some r.sequence) (sequence_of s rs)) ≡ true
    go true h = refl
    go false h = h

pub apart_distinct : (rs : List Association) → Apart rs (length rs) → distinct rs ≡ true
unfolding distinct
apart_distinct [] h = refl
apart_distinct (r ∷ rs) h =
    rw (none_held r.station rs (λ k l. h (suc k) (omega arith) 0 (omega arith))) (apart_distinct rs (λ i l j k. h (suc i) (omega arith) (suc j) (omega arith)))

twice_not_distinct : (rs : List Association) (j i : ℕ) → j < i → i < length rs → station_at rs j ≡ station_at rs i → distinct rs ≡ false
unfolding distinct
twice_not_distinct [] j i k l e = absurd (not-suc-le-zero l)
twice_not_distinct (r ∷ rs) j zero k l e = absurd (not-suc-le-zero k)
twice_not_distinct (r ∷ rs) zero (suc i) k l e = rw (held r.station rs i (le_of_suc-le-suc l) e)
twice_not_distinct (r ∷ rs) (suc j) (suc i) k l e =
    rw (twice_not_distinct rs j i (le_of_suc-le-suc k) (le_of_suc-le-suc l) e, and_false)

-- a search for the station of row i among the rows before it
module _ (rs : List Association) (i : ℕ) (l : i < length rs) where
  -- it finds one
  pub found_earlier : is_some (position (is_of (station_at rs i)) (take i rs)) ≡ true → distinct rs ≡ false
  found_earlier = go (position (is_of (station_at rs i)) (take i rs)) refl
    where
      go : (o : Option ℕ) → position (is_of (station_at rs i)) (take i rs) ≡ o → is_some o ≡ true → distinct rs ≡ false
      go None e h = absurd (false≢true h)
      go (Some j) e h =
          let q = position-Some (is_of (station_at rs i)) (take i rs) j past e in
          let k : j < i = omega (arith, q.0, length-take-le i rs (omega arith)) in
          twice_not_distinct rs j i k l
          (sym (same_true (station_at rs i) (station_at (take i rs) j) q.1 ∙ ap (λ (r : Association). r.station) (get_or-take i rs j past k)))

  -- it finds none
  pub not_earlier : is_some (position (is_of (station_at rs i)) (take i rs)) ≡ false → Fresh rs i
  not_earlier = go (ltb (position_or_len (is_of (station_at rs i)) (take i rs)) (length (take i rs))) refl
    where
      go : (b : Bool) → ltb (position_or_len (is_of (station_at rs i)) (take i rs)) (length (take i rs)) ≡ b
          → is_some (cond b (Some (position_or_len (is_of (station_at rs i)) (take i rs))) None) ≡ false → Fresh rs i
      go true e h = not_both refl h
      go false e h =
          λ j k q.
          let m : length (take i rs) ≡ i = length-take-le i rs (omega arith) in
          let n : j < position_or_len (is_of (station_at rs i)) (take i rs) = omega (arith, ltb-false _ _ e) in
          not_both
          (same_of_eq (station_at rs i) (station_at (take i rs) j) (sym (ap (λ (r : Association). r.station) (get_or-take i rs j past k) ∙ q)))
          (not-true (is_of (station_at rs i) (get_or (take i rs) j past)) (prefix_len_passes (λ (r : Association). not (is_of (station_at rs i) r)) (take i rs) j past n))

-- how the stations end

module _ (rs : List Association) (i : ℕ) (seen : List Bool) where
  -- no row before row i ends as it does
  pub new_ending : Noted rs i seen → get_or seen (ending (station_at rs i)) false ≡ false → Fresh rs i
  new_ending h e j g q = not_both (h j g) (ap (λ (s : List ℕ). get_or seen (ending s) false) q ∙ e)

  pub noted_more : length seen ≡ 64 → Noted rs i seen → Noted rs (i + 1) (set seen (ending (station_at rs i)) true)
  noted_more l h j k = go (eq-or-lt_of_le (omega arith))
    where
      go : (j ≡ i) ⊎ (j < i) → get_or (set seen (ending (station_at rs i)) true) (ending (station_at rs j)) false ≡ true
      go (inr g) = get_or_set (λ (b : Bool). b ≡ true) seen (ending (station_at rs i)) (ending (station_at rs j)) true false (h j g) (λ e. refl)
      go (inl e) = rw e (get_or-set_same seen (ending (station_at rs i)) true false (omega arith))

pub apart_more : (rs : List Association) (i : ℕ) → Apart rs i → Fresh rs i → Apart rs (i + 1)
apart_more rs i h f k l = go (eq-or-lt_of_le (omega arith))
  where
    go : (k ≡ i) ⊎ (k < i) → Fresh rs k
    go (inr g) = h k g
    go (inl e) = subst (Fresh rs) (sym e) f
