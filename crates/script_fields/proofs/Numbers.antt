-- A number read digit by digit, and when a field is none.
-- Assumes nothing.
use Rattle.std.proofs.Common.{◌≡◌, refl, ap, ◌∙◌, ℕ, ◌+◌, ◌*◌, ◌-◌, ◌≤◌, ◌<◌, List, [], ◌∷◌, true, false, not, None, Some, length, get_or, drop, arith, add-one, drop-cons, le-leb, eq-eqb, ne_eqb}
use borrow.Author.Tests.{lt-leb}
use lib.ListN.{drop_of_length-le}
use Rattle.lists.specs.Places.{every}
use Rattle.lists.proofs.Choices.{and_false}
use Rattle.lists.proofs.Every.{every_next, every_end}
use Rattle.script.specs.Fields.{is_digit, value_from, is_plain, is_number, number_in}

-- a digit more makes it no smaller
value_grows : (v : ℕ) (xs : List ℕ) → v ≤ value_from v xs
unfolding value_from
value_grows v [] = omega arith
value_grows v (x ∷ xs) = omega (arith, value_grows (10 * v + (x - 48)) xs)

-- no digit, a leading zero, and neither

pub empty_none : (f : List ℕ) → length f ≡ 0 → number_in f ≡ None
unfolding number_in is_number is_plain
empty_none [] l = refl
empty_none (x ∷ f) l = absurd (omega arith)

pub zero_none : (f : List ℕ) → get_or f 0 0 ≡ 48 → 1 < length f → number_in f ≡ None
unfolding number_in is_number is_plain
zero_none [] e l = absurd (omega arith)
zero_none (x ∷ []) e l = absurd (omega arith)
zero_none (x ∷ y ∷ f) e l = rw (eq-eqb x 48 e)

pub plain : (f : List ℕ) → 0 < length f → (get_or f 0 0 ≡ 48 → length f ≤ 1) → is_plain f ≡ true
unfolding is_plain
plain [] l h = absurd (omega arith)
plain (x ∷ []) l h = refl
plain (x ∷ y ∷ f) l h = ap not (ne_eqb x 48 (λ e. omega (arith, h e)))

-- the first i octets of f are digits that say v, as far as the rest is
pub record Said (f : List ℕ) (i v : ℕ) : Type 0 where
  pub digits : every is_digit f ≡ every is_digit (drop i f)
  pub value : value_from 0 f ≡ value_from v (drop i f)
  pub small : v ≤ 65535

module _ (f : List ℕ) (i v : ℕ) (s : Said f i v) where
  module _ (l : i < length f) where
    value_next : value_from 0 f ≡ value_from (10 * v + (get_or f i 0 - 48)) (drop (i + 1) f)
    unfolding value_from
    value_next = s.value ∙ rw (add-one i, drop-cons f i 0)

    pub no_digit : is_digit (get_or f i 0) ≡ false → number_in f ≡ None
    unfolding number_in is_number
    no_digit e = rw (s.digits, every_next is_digit 0 f i l, e, and_false)

    pub too_large : 65535 < 10 * v + (get_or f i 0 - 48) → number_in f ≡ None
    unfolding number_in is_number
    too_large h =
        let k : 65535 < value_from 0 f = omega (arith, value_next, value_grows (10 * v + (get_or f i 0 - 48)) (drop (i + 1) f)) in
        rw (lt-leb (value_from 0 f) 65535 k, and_false, and_false)

    pub digit_more : (w : ℕ) → is_digit (get_or f i 0) ≡ true → w ≡ 10 * v + (get_or f i 0 - 48) → w ≤ 65535 → Said f (i + 1) w
    digit_more w e h k = record {
      digits = s.digits ∙ every_next is_digit 0 f i l ∙ rw e;
      value = value_next ∙ rw h;
      small = k;
    }

  pub all_read : length f ≤ i → is_plain f ≡ true → number_in f ≡ Some v
  unfolding number_in is_number value_from
  all_read l p =
      let e : value_from 0 f ≡ v = s.value ∙ rw (drop_of_length-le f l) in
      rw (p, s.digits ∙ every_end is_digit f i l, e, le-leb v 65535 s.small)
