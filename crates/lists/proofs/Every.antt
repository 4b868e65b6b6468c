-- What holds of every element of a list, after each change of the list; one element set; and a test of every element.
-- Assumes nothing.
use Prim.Native.Nat.{ℕ, zero, suc, ◌+◌, ◌≤◌, ◌<◌}
use mathlib.Core.Path.{◌≡◌, refl, ap, subst}
use mathlib.Core.List.{List, [], ◌∷◌, ◌++◌, map}
use Rattle.std.specs.Prelude.{Some}
use mathlib.Core.Bool.{Bool, true, ◌&&◌}
use native.Mathlib.Omega.{arith}
use native.Mathlib.Nat.{not-suc-le-zero, le_of_suc-le-suc}
use native.Mathlib.Numerals.{add-one}
use lib.ListN.{length, get_or, set, take, drop, replicate, drop_of_length-le}
use lib.Seq.{drop-cons}
use Rattle.std.specs.List.{list_all}
use Rattle.lists.specs.Places.{nth, without, every, All, nil, cons}
use Rattle.lists.proofs.Choices.{and_left, and_right, and_true, not_some, some_inj}

pub all_map : {A : Type 0} {P Q : A → Type 0} {xs : List A} → ((x : A) → P x → Q x) → All P xs → All Q xs
all_map f nil = nil
all_map f (cons {x = x} p ps) = cons (f x p) (all_map f ps)

pub all_map2 : {A : Type 0} {P Q R : A → Type 0} {xs : List A} → ((x : A) → P x → Q x → R x) → All P xs → All Q xs → All R xs
all_map2 f nil nil = nil
all_map2 f (cons {x = x} p ps) (cons q qs) = cons (f x p q) (all_map2 f ps qs)

pub all_append : {A : Type 0} {P : A → Type 0} {xs ys : List A} → All P xs → All P ys → All P (xs ++ ys)
all_append nil qs = qs
all_append (cons p ps) qs = cons p (all_append ps qs)

pub all_take : {A : Type 0} {P : A → Type 0} {xs : List A} (n : ℕ) → All P xs → All P (take n xs)
all_take zero h = nil
all_take (suc n) nil = nil
all_take (suc n) (cons h hs) = cons h (all_take n hs)

pub all_drop : {A : Type 0} {P : A → Type 0} {xs : List A} (n : ℕ) → All P xs → All P (drop n xs)
all_drop zero h = h
all_drop (suc n) nil = nil
all_drop (suc n) (cons h hs) = all_drop n hs

pub all_replicate : {A : Type 0} {P : A → Type 0} (n : ℕ) (x : A) → P x → All P (replicate n x)
all_replicate zero x h = nil
all_replicate (suc n) x h = cons h (all_replicate n x h)

pub all_nth : {A : Type 0} {P : A → Type 0} (k : ℕ) (xs : List A) (x : A) → nth k xs ≡ Some x → All P xs → P x
unfolding nth
all_nth k [] x e nil = not_some refl e
all_nth {P = P} zero (y ∷ ys) x e (cons h hs) = subst P (some_inj refl e) h
all_nth (suc k) (y ∷ ys) x e (cons h hs) = all_nth k ys x e hs

pub all_at : {A : Type 0} {P : A → Type 0} (xs : List A) (i : ℕ) (d : A) → All P xs → i < length xs → P (get_or xs i d)
all_at [] i d nil h = absurd (not-suc-le-zero h)
all_at (x ∷ xs) zero d (cons p ps) h = p
all_at (x ∷ xs) (suc i) d (cons p ps) h = all_at xs i d ps (le_of_suc-le-suc h)

pub all_without : {A : Type 0} {P : A → Type 0} (k : ℕ) (xs : List A) → All P xs → All P (without k xs)
unfolding without
all_without k [] nil = nil
all_without zero (x ∷ xs) (cons h hs) = hs
all_without (suc k) (x ∷ xs) (cons h hs) = cons h (all_without k xs hs)

pub without_length : {A : Type 0} (k : ℕ) (xs : List A) → length (without k xs) ≤ length xs
unfolding without
without_length k [] = omega arith
without_length zero (x ∷ xs) = omega arith
without_length (suc k) (x ∷ xs) = omega (arith, without_length k xs)

-- a test of every element, and what it says
pub every_all : {A : Type 0} {P Q : A → Type 0} {p : A → Bool} {xs : List A} → ((x : A) → Q x → p x ≡ true → P x) → All Q xs → every p xs ≡ true → All P xs
unfolding every
every_all f nil e = nil
every_all {p = p} f (cons {x = x} {xs = xs} q qs) e = cons (f x q (and_left (p x) (every p xs) e)) (every_all f qs (and_right (p x) (every p xs) e))

pub all_every : {A : Type 0} {P : A → Type 0} {xs : List A} (p : A → Bool) → ((x : A) → P x → p x ≡ true) → All P xs → every p xs ≡ true
unfolding every
all_every p f nil = refl
all_every p f (cons {x = x} {xs = xs} h hs) = and_true (p x) (every p xs) (f x h) (all_every p f hs)

-- the element at c after that at b was set
pub get_or_set : {A : Type 0} (P : A → Type 0) (xs : List A) (b c : ℕ) (x d : A) → P (get_or xs c d) → (b ≡ c → P x) → P (get_or (set xs b x) c d)
get_or_set P [] b c x d h k = h
get_or_set P (y ∷ ys) zero zero x d h k = k refl
get_or_set P (y ∷ ys) zero (suc c) x d h k = h
get_or_set P (y ∷ ys) (suc b) zero x d h k = h
get_or_set P (y ∷ ys) (suc b) (suc c) x d h k = get_or_set P ys b c x d h (λ e. k (ap suc e))

pub get_or_set_own : {A : Type 0} (P : A → Type 0) (xs : List A) (b : ℕ) (x d : A) → P x → P d → P (get_or (set xs b x) b d)
get_or_set_own P [] b x d h k = k
get_or_set_own P (y ∷ ys) zero x d h k = h
get_or_set_own P (y ∷ ys) (suc b) x d h k = get_or_set_own P ys b x d h k

-- a test of every element, one after the other

pub every_map : {A B : Type 0} (f : A → B) (p : B → Bool) (xs : List A) → every p (map f xs) ≡ every (λ x. p (f x)) xs
unfolding every
every_map f p [] = refl
every_map f p (x ∷ xs) = ap (◌&&◌ (p (f x))) (every_map f p xs)

pub every_next : {A : Type 0} (p : A → Bool) (d : A) (xs : List A) (i : ℕ) → i < length xs → every p (drop i xs) ≡ p (get_or xs i d) && every p (drop (i + 1) xs)
unfolding every
every_next p d xs i l = rw (add-one i, drop-cons xs i d)

pub every_end : {A : Type 0} (p : A → Bool) (xs : List A) (i : ℕ) → length xs ≤ i → every p (drop i xs) ≡ true
unfolding every
every_end p xs i l = rw (drop_of_length-le xs l)

-- the test that `Iterator::all` makes
pub every_list : {A : Type 0} (p : A → Bool) (xs : List A) → list_all p xs ≡ every p xs
unfolding every
every_list p [] = refl
every_list p (x ∷ xs) = ap (◌&&◌ (p x)) (every_list p xs)
