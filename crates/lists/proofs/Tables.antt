-- Ordered tables of tests: when none passes, and what a table in two parts decides.
-- Assumes nothing.
use mathlib.Core.Path.{◌≡◌, refl, sym, ◌∙◌}
use mathlib.Core.List.{List, [], ◌∷◌, ◌++◌}
use mathlib.Core.Bool.{Bool, true, false, cond, ◌&&◌, not, false≢true}
use lib.Dec.{T}
use borrow.Author.Tests.{lt-ltb, le-ltb, eq-eqb, ne_eqb}
use Rattle.lists.specs.Table.{Test, first_of, accepts}

-- what the code's tests say of a table's
pub ruleset tests = (lt-ltb, le-ltb, eq-eqb, ne_eqb)

-- no test passes
abbrev pub NonePass : List Test → Type 0
NonePass [] = Unit {0}
NonePass (t ∷ ts) = (t.0 ≡ false) × NonePass ts

-- each test's number is a refusal: not 0
abbrev pub refusing : List Test → Bool
refusing [] = true
refusing (t ∷ ts) = not (accepts t.1) && refusing ts

head_refuses : (x y : Bool) → T (not x && y) → x ≡ false
head_refuses true y r = absurd r
head_refuses false y r = refl

rest_refuses : (x y : Bool) → T (not x && y) → T y
rest_refuses true y r = absurd r
rest_refuses false y r = r

-- accepted: none of the tests passed
pub none_pass : (ts : List Test) → T (refusing ts) → accepts (first_of ts) ≡ true → NonePass ts
none_pass [] r e = tt
none_pass (t ∷ ts) r e = go t.0 e (none_pass ts (rest_refuses (accepts t.1) (refusing ts) r))
  where
    go : (b : Bool) → accepts (cond b t.1 (first_of ts)) ≡ true → (accepts (first_of ts) ≡ true → NonePass ts) → (b ≡ false) × NonePass ts
    go true e f = absurd (false≢true (sym (head_refuses (accepts t.1) (refusing ts) r) ∙ e))
    go false e f = (refl, f e)

-- none of the tests passes: accepted
pub accepted : (ts : List Test) → NonePass ts → first_of ts ≡ 0
accepted [] h = refl
accepted (t ∷ ts) h = rw h.0 (accepted ts h.1)

-- the first part decides; where it accepts, the second
pub in_parts : (xs ys : List Test) → T (refusing xs) → first_of (xs ++ ys) ≡ cond (accepts (first_of xs)) (first_of ys) (first_of xs)
in_parts [] ys r = refl
in_parts (x ∷ xs) ys r = go x.0 (in_parts xs ys (rest_refuses (accepts x.1) (refusing xs) r))
  where
    go : (b : Bool) → first_of (xs ++ ys) ≡ cond (accepts (first_of xs)) (first_of ys) (first_of xs)
        → cond b x.1 (first_of (xs ++ ys)) ≡ cond (accepts (cond b x.1 (first_of xs))) (first_of ys) (cond b x.1 (first_of xs))
    go true e = rw (head_refuses (accepts x.1) (refusing xs) r)
    go false e = e
