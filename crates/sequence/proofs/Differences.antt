-- Integers as differences of natural numbers: `sub_ℕ a b` is a − b.
-- Assumes nothing.
use Rattle.std.proofs.Common.{◌≡◌, ℕ, zero, suc, ◌+◌, ◌-◌, ◌*◌, Bool, true, false, ltb, pos, negsuc, ◌+ℤ◌, ◌*ℤ◌, neg_ℤ, sym, refl, ap, ◌∙◌, arith, ltb-false, ltb-true, le-ltb, lt-ltb}
use lib.IntN.{sub_ℕ}

-- a − b where a is not below b, and where it is
pub sub_pos : (a b d : ℕ) → a ≡ b + d → sub_ℕ a b ≡ pos d
sub_pos a b d e = rw (le-ltb a b (omega arith)) (ap pos (omega arith))

pub sub_neg : (a b d : ℕ) → b ≡ a + d + 1 → sub_ℕ a b ≡ negsuc d
sub_neg a b d e = rw (lt-ltb a b (omega arith)) (ap negsuc (omega arith))

-- one of the two is the case
pub data Order (a b : ℕ) : Type 0 where
  ahead : (d : ℕ) → a ≡ b + d → Order a b
  behind : (d : ℕ) → b ≡ a + d + 1 → Order a b

pub order : (a b : ℕ) → Order a b
order a b = go (ltb a b) refl
  where
    go : (t : Bool) → ltb a b ≡ t → Order a b
    go true e = behind (b - a - 1) (omega (arith, ltb-true a b e))
    go false e = ahead (a - b) (omega (arith, ltb-false a b e))

-- the two again, from the difference
pub from_pos : (a b d : ℕ) → pos d ≡ sub_ℕ a b → a ≡ b + d
from_pos a b d e = go (order a b)
  where
    go : Order a b → a ≡ b + d
    go (ahead x h) = let p : d ≡ x = cc (sub_pos a b x h) in omega arith
    go (behind x h) = let z : ◌≡◌ {A = ℕ} 0 1 = cc (sub_neg a b x h) in omega arith

pub from_neg : (a b d : ℕ) → negsuc d ≡ sub_ℕ a b → b ≡ a + d + 1
from_neg a b d e = go (order a b)
  where
    go : Order a b → b ≡ a + d + 1
    go (ahead x h) = let z : ◌≡◌ {A = ℕ} 0 1 = cc (sub_pos a b x h) in omega arith
    go (behind x h) = let p : d ≡ x = cc (sub_neg a b x h) in omega arith

-- equal differences
pub sub_same : (a b c d : ℕ) → a + d ≡ c + b → sub_ℕ a b ≡ sub_ℕ c d
sub_same a b c d e = go (order a b)
  where
    go : Order a b → sub_ℕ a b ≡ sub_ℕ c d
    go (ahead x h) = sub_pos a b x h ∙ sym (sub_pos c d x (omega arith))
    go (behind x h) = sub_neg a b x h ∙ sym (sub_neg c d x (omega arith))

-- the sum of two differences
pub sub_sum : (a b c d : ℕ) → sub_ℕ a b +ℤ sub_ℕ c d ≡ sub_ℕ (a + c) (b + d)
sub_sum a b c d = go (order a b) (order c d)
  where
    go : Order a b → Order c d → sub_ℕ a b +ℤ sub_ℕ c d ≡ sub_ℕ (a + c) (b + d)
    go (ahead x h) (ahead y k) = rw (sub_pos a b x h, sub_pos c d y k) (sym (sub_pos (a + c) (b + d) (x + y) (omega arith)))
    go (ahead x h) (behind y k) = rw (sub_pos a b x h, sub_neg c d y k) (sub_same x (suc y) (a + c) (b + d) (omega arith))
    go (behind x h) (ahead y k) = rw (sub_neg a b x h, sub_pos c d y k) (sub_same y (suc x) (a + c) (b + d) (omega arith))
    go (behind x h) (behind y k) = rw (sub_neg a b x h, sub_neg c d y k) (sym (sub_neg (a + c) (b + d) (suc (x + y)) (omega arith)))

negated : (k : ℕ) → neg_ℤ (pos k) ≡ sub_ℕ 0 k
negated zero = refl
negated (suc k) = sym (sub_neg 0 (suc k) k (omega arith))

-- 4096 times a difference
pub sub_times : (a b : ℕ) → pos 4096 *ℤ sub_ℕ a b ≡ sub_ℕ (4096 * a) (4096 * b)
sub_times a b = go (order a b)
  where
    go : Order a b → pos 4096 *ℤ sub_ℕ a b ≡ sub_ℕ (4096 * a) (4096 * b)
    go (ahead x h) = rw (sub_pos a b x h) (sym (sub_pos (4096 * a) (4096 * b) (4096 * x) (omega arith)))
    go (behind x h) = rw (sub_neg a b x h) (negated (4096 * suc x) ∙ sub_same 0 (4096 * suc x) (4096 * a) (4096 * b) (omega arith))
