-- The distance is the number that document 01 names, and the only one; and what follows for `newer`.
-- Assumes nothing.
use Rattle.std.proofs.Common.{◌≡◌, ℕ, suc, ◌+◌, ◌-◌, ◌*◌, ◌/◌, ◌%◌, ◌^◌, ◌<◌, Bool, true, false, ltb, ℤ, pos, negsuc, ◌+ℤ◌, ◌*ℤ◌, sym, refl, ap, ◌∙◌, arith, ltb-false, ltb-true, le-ltb, lt-ltb}
use mathlib.Core.Bool.{false≢true}
use lib.IntN.{sub_ℕ}
use Rattle.sequence.specs.Distance.{residue, centred, distance, InRange, IsDistance, positive, newer_of}
use Rattle.sequence.proofs.Differences.{sub_pos, sub_neg, from_pos, from_neg, sub_sum, sub_times}

-- n − m, and 4096 times a − b, in one difference
moved : (n m a b : ℕ) → sub_ℕ n m +ℤ pos 4096 *ℤ sub_ℕ a b ≡ sub_ℕ (n + 4096 * a) (m + 4096 * b)
moved n m a b = ap (λ (z : ℤ). sub_ℕ n m +ℤ z) (sub_times a b) ∙ sub_sum n m (4096 * a) (4096 * b)

-- "the whole number in −2048..2047 that differs from n − m by a multiple of 4096"
pub distance_right : (n m : ℕ) → IsDistance n m (distance n m)
unfolding distance
distance_right n m = go (ltb (residue n m) 2048) refl
  where
    go : (t : Bool) → ltb (residue n m) 2048 ≡ t → IsDistance n m (centred t (residue n m))
    go true e =
        let a : ℕ = m / 4096 + 1 in
        let b : ℕ = (n + (4096 - m % 4096)) / 4096 in
        record {
          range = omega (arith, ltb-true (residue n m) 2048 e);
          multiple = sub_ℕ a b;
          differs = sym (moved n m a b ∙ sub_pos (n + 4096 * a) (m + 4096 * b) (residue n m) (omega arith));
        }
    go false e =
        let a : ℕ = m / 4096 + 1 in
        let b : ℕ = (n + (4096 - m % 4096)) / 4096 + 1 in
        record {
          range = omega (arith, ltb-false (residue n m) 2048 e);
          multiple = sub_ℕ a b;
          differs = sym (moved n m a b ∙ sub_neg (n + 4096 * a) (m + 4096 * b) (4095 - residue n m) (omega arith));
        }

-- a number in range that is n − m moved by a multiple of 4096 is the distance
only_by : (n m a b : ℕ) (z : ℤ) → InRange z → z ≡ sub_ℕ (n + 4096 * a) (m + 4096 * b) → z ≡ distance n m
unfolding distance
only_by n m a b (pos d) r e =
    let h = from_pos (n + 4096 * a) (m + 4096 * b) d e in
    let q : residue n m ≡ d = omega arith in
    rw (q, lt-ltb d 2048 (omega arith))
only_by n m a b (negsuc d) r e =
    let h = from_neg (n + 4096 * a) (m + 4096 * b) d e in
    let q : residue n m ≡ 4095 - d = omega arith in
    rw (q, le-ltb (4095 - d) 2048 (omega arith)) (ap negsuc (omega arith))

-- and no other number is
pub distance_only : (n m : ℕ) (z : ℤ) → IsDistance n m z → z ≡ distance n m
distance_only n m z h = go h.multiple h.differs
  where
    go : (k : ℤ) → z ≡ sub_ℕ n m +ℤ pos 4096 *ℤ k → z ≡ distance n m
    go (pos x) e = only_by n m x 0 z h.range (e ∙ ap (λ (k : ℤ). sub_ℕ n m +ℤ pos 4096 *ℤ k) (sym (sub_pos x 0 x (omega arith))) ∙ moved n m x 0)
    go (negsuc x) e =
        only_by n m 0 (suc x) z h.range (e ∙ ap (λ (k : ℤ). sub_ℕ n m +ℤ pos 4096 *ℤ k) (sym (sub_neg 0 (suc x) x (omega arith))) ∙ moved n m 0 (suc x))

-- the wrapped 16-bit difference has the remainder that the definition takes
pub residue_is : (n m w : ℕ) → (w + m) % 2 ^ 16 ≡ n → residue n m ≡ w % 4096
residue_is n m w e = omega arith

-- newer, by the residue
pub newer_at_zero : (n m : ℕ) → residue n m ≡ 0 → newer_of n m ≡ false
unfolding newer_of distance
newer_at_zero n m e = rw e

pub newer_above_zero : (n m : ℕ) → 0 < residue n m → newer_of n m ≡ ltb (residue n m) 2048
unfolding newer_of distance
newer_above_zero n m h = go (ltb (residue n m) 2048)
  where
    go : (t : Bool) → positive (centred t (residue n m)) ≡ t
    go true = lt-ltb 0 (residue n m) h
    go false = refl

-- newer says that the residue is in 1..2047
pub newer_residue : (n m : ℕ) → newer_of n m ≡ true → (0 < residue n m) × (residue n m < 2048)
unfolding newer_of distance
newer_residue n m = go (ltb (residue n m) 2048) refl
  where
    go : (t : Bool) → ltb (residue n m) 2048 ≡ t → positive (centred t (residue n m)) ≡ true → (0 < residue n m) × (residue n m < 2048)
    go true e p = (ltb-true 0 (residue n m) p, ltb-true (residue n m) 2048 e)
    go false e p = absurd (false≢true p)

not_newer : (t : Bool) → (t ≡ true → ⊥) → t ≡ false
not_newer true h = absurd (h refl)
not_newer false h = refl

-- of two numbers at most one is newer than the other
pub newer_asym : (n m : ℕ) → newer_of n m ≡ true → newer_of m n ≡ false
newer_asym n m e =
    not_newer (newer_of m n)
    (λ f. let p = newer_residue n m e in let q = newer_residue m n f in omega arith)

pub newer_irrefl : (n : ℕ) → newer_of n n ≡ false
newer_irrefl n = newer_at_zero n n (omega arith)

-- "At 2048 apart neither is newer."
pub apart : (m : ℕ) → (newer_of (m + 2048) m ≡ false) × (newer_of m (m + 2048) ≡ false)
apart m = (
  not_newer (newer_of (m + 2048) m) (λ e. let p = newer_residue (m + 2048) m e in omega arith),
  not_newer (newer_of m (m + 2048)) (λ e. let p = newer_residue m (m + 2048) e in omega arith),
)
