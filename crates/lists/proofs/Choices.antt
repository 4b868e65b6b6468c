-- Tests and options by cases: what follows from a test, and properties of a choice.
-- Assumes nothing.
use Prim.Native.Nat.{ℕ}
use mathlib.Core.Path.{◌≡◌, refl, sym, ◌∙◌}
use mathlib.Core.Bool.{Bool, true, false, ◌&&◌, ◌||◌, false≢true}
use Rattle.std.specs.Prelude.{Option, None, Some}
use mathlib.Core.Logic.{◌⊎◌, inl, inr}
use native.Mathlib.Omega.{arith}
use Rattle.lists.specs.Options.{case_option}

pub and_left : (a b : Bool) → a && b ≡ true → a ≡ true
and_left true b e = refl
and_left false b e = e

pub and_right : (a b : Bool) → a && b ≡ true → b ≡ true
and_right true b e = e
and_right false b e = absurd (false≢true e)

pub and_true : (a b : Bool) → a ≡ true → b ≡ true → a && b ≡ true
and_true a b p q = rw (p, q)

pub and_false : (a : Bool) → a && false ≡ false
and_false true = refl
and_false false = refl

pub or_true_right : (a b : Bool) → b ≡ true → a || b ≡ true
or_true_right true b e = refl
or_true_right false b e = e

pub or_mono : (a b c d : Bool) → (a ≡ true → c ≡ true) → (b ≡ true → d ≡ true) → a || b ≡ true → c || d ≡ true
or_mono true b c d f g e = rw (f refl)
or_mono false b c d f g e = or_true_right c d (g e)

-- a test is not true and false
pub not_both : {b : Bool} {C : Type 0} → b ≡ true → b ≡ false → C
not_both p q = absurd (false≢true (sym q ∙ p))

-- a test that cannot be true is false
pub false_unless : (b : Bool) → (b ≡ true → ⊥) → b ≡ false
false_unless true h = absurd (h refl)
false_unless false h = refl

-- what holds of both values holds of the test, each with what the test says there
pub by_bool : (P : Bool → Type 0) (b : Bool) → (b ≡ true → P true) → (b ≡ false → P false) → P b
by_bool P true f g = f refl
by_bool P false f g = g refl

pub by_option : {A B : Type 0} (P : B → Type 0) (o : Option A) {x : B} {g : A → B} → (o ≡ None → P x) → ((a : A) → o ≡ Some a → P (g a)) → P (case_option o x g)
by_option P None f g = f refl
by_option P (Some a) f g = g a refl

pub is_none : {A : Type 0} (o : Option A) → ((a : A) → o ≡ Some a → ⊥) → o ≡ None
is_none None h = refl
is_none (Some a) h = absurd (h a refl)

pub not_some : {A : Type 0} {a : A} {o : Option A} {C : Type 0} → o ≡ None → o ≡ Some a → C
not_some {A} {a} {o} p q = let z : ◌≡◌ {A = ℕ} 0 1 = cc in absurd (omega arith)

pub some_inj : {A : Type 0} {a b : A} {o : Option A} → o ≡ Some a → o ≡ Some b → a ≡ b
some_inj p q = cc

-- one of two, and what follows from each
pub either : {A B : Type 0} {C : Type 0} → A ⊎ B → (A → C) → (B → C) → C
either (inl a) f g = f a
either (inr b) f g = g b
