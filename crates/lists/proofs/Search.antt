-- Laws of a search for the first element that passes a test, and of an element taken out of the used part of an array.
-- Assumes nothing.
use Prim.Native.Nat.{ℕ, zero, suc, ◌+◌, ◌-◌, ◌<◌, ◌≤◌}
use mathlib.Core.Path.{◌≡◌, refl, sym, ◌∙◌, ap}
use mathlib.Core.Bool.{Bool, true, false, cond}
use mathlib.Core.List.{List, [], ◌∷◌, ◌++◌, map}
use native.Mathlib.Numerals.{add-one, sub-one, one-add}
use native.Mathlib.Nat.{add-zero, not-suc-le-zero, le_of_suc-le-suc}
use native.Mathlib.Omega.{arith}
use lib.ListN.{length, drop, take, get_or, set, drop_of_length-le, take-append-drop, length-append, length-take, length-drop}
use lib.Seq.{drop-cons, get_or-take, length-take-le, take-nil, take-suc, get_or-append-add, get_or-drop, set_at, append_snoc}
use Rattle.lists.specs.Places.{without}
use Rattle.std.specs.List.{position}
use Rattle.std.specs.Option.{unwrap_or}
use Rattle.std.proofs.lemmas.List.Recursion.{is_position_or_len}
use Rattle.lists.specs.Search.{index_by, shifted}
use Rattle.lists.proofs.Bools.{by_cond}
use Rattle.std.specs.Prelude.{Option}
use borrow.Author.Tests.{ltb-false}
use lib.Dec.{ltb}

-- A search that has passed i elements: the first hit of the whole is i and the first hit of the rest.
module _ {A : Type 0} (p : A → Bool) (d : A) (xs : List A) (i : ℕ) (e : index_by p xs ≡ i + index_by p (drop i xs)) where
  pub index_hit : i < length xs → p (get_or xs i d) ≡ true → index_by p xs ≡ i
  index_hit l h = e ∙ rw (drop-cons xs i d, h, add-zero)

  pub index_miss : i < length xs → p (get_or xs i d) ≡ false → index_by p xs ≡ (i + 1) + index_by p (drop (i + 1) xs)
  index_miss l h = e ∙ rw (add-one i, drop-cons xs i d, h) (omega arith)

  pub index_end : length xs ≤ i → index_by p xs ≡ i
  index_end l = e ∙ rw (drop_of_length-le xs l, add-zero)

-- within the list, what `get_or` gives past the end does not matter
pub get_d_any : {A : Type 0} (xs : List A) (i : ℕ) (d d' : A) → i < length xs → get_or xs i d ≡ get_or xs i d'
get_d_any [] i d d' l = absurd (not-suc-le-zero l)
get_d_any (x ∷ xs) zero d d' l = refl
get_d_any (x ∷ xs) (suc i) d d' l = get_d_any xs i d d' (le_of_suc-le-suc l)

-- an element of the first n, which are all there
pub get_or_used : {A : Type 0} (n : ℕ) (xs : List A) (i : ℕ) (d d' : A) → i < n → n ≤ length xs → get_or (take n xs) i d ≡ get_or xs i d'
get_or_used n xs i d d' l h = get_or-take n xs i d l ∙ get_d_any xs i d d' (omega arith)

-- the functions of `Lists` go through a map
pub map_without : {A B : Type 0} (f : A → B) (i : ℕ) (xs : List A) → map f (without i xs) ≡ without i (map f xs)
unfolding without
map_without f i [] = refl
map_without f zero (x ∷ xs) = refl
map_without {B = B} f (suc i) (x ∷ xs) = ap (λ (l : List B). f x ∷ l) (map_without f i xs)

pub index_map : {A B : Type 0} (f : A → B) (p : B → Bool) (xs : List A) → index_by p (map f xs) ≡ index_by (λ x. p (f x)) xs
index_map f p [] = refl
index_map f p (x ∷ xs) = ap (λ (n : ℕ). cond (p (f x)) 0 (suc n)) (index_map f p xs)

pub map_take : {A B : Type 0} (f : A → B) (n : ℕ) (xs : List A) → map f (take n xs) ≡ take n (map f xs)
map_take f zero xs = refl
map_take f (suc n) [] = refl
map_take {B = B} f (suc n) (x ∷ xs) = ap (λ (l : List B). f x ∷ l) (map_take f n xs)

pub map_set : {A B : Type 0} (f : A → B) (xs : List A) (i : ℕ) (a : A) → map f (set xs i a) ≡ set (map f xs) i (f a)
map_set f [] i a = refl
map_set f (x ∷ xs) zero a = refl
map_set {B = B} f (x ∷ xs) (suc i) a = ap (λ (l : List B). f x ∷ l) (map_set f xs i a)

-- past the end nothing is taken out
pub without_past : {A : Type 0} (i : ℕ) (xs : List A) → length xs ≤ i → without i xs ≡ xs
unfolding without
without_past i [] l = refl
without_past zero (x ∷ xs) l = absurd (not-suc-le-zero l)
without_past {A = A} (suc i) (x ∷ xs) l = ap (λ (r : List A). x ∷ r) (without_past i xs (le_of_suc-le-suc l))

-- a search of the used part of an array
module _ {A : Type 0} (p : A → Bool) (d : A) (n : ℕ) (xs : List A) (i : ℕ) (l : n ≤ length xs) (e : index_by p (take n xs) ≡ i + index_by p (drop i (take n xs))) where
  pub found_at : i < n → p (get_or xs i d) ≡ true → index_by p (take n xs) ≡ i
  found_at k h =
      let m : length (take n xs) ≡ n = length-take-le n xs l in
      index_hit p d (take n xs) i e (omega arith) (ap p (get_or_used n xs i d d k l) ∙ h)

  pub not_at : i < n → p (get_or xs i d) ≡ false → index_by p (take n xs) ≡ (i + 1) + index_by p (drop (i + 1) (take n xs))
  not_at k h =
      let m : length (take n xs) ≡ n = length-take-le n xs l in
      index_miss p d (take n xs) i e (omega arith) (ap p (get_or_used n xs i d d k l) ∙ h)

  pub found_none : n ≤ i → index_by p (take n xs) ≡ i
  found_none k =
      let m : length (take n xs) ≡ n = length-take-le n xs l in
      index_end p d (take n xs) i e (omega arith)

-- A loop that takes the element i out of an array, by moving the later ones down

module _ {A : Type 0} where
  pub take_without : (i : ℕ) (xs : List A) → take i (without i xs) ≡ take i xs
  unfolding without
  take_without zero [] = refl
  take_without zero (x ∷ xs) = refl
  take_without (suc i) [] = refl
  take_without (suc i) (x ∷ xs) = ap (λ (l : List A). x ∷ l) (take_without i xs)

  pub length_without : (i : ℕ) (xs : List A) → i < length xs → length (without i xs) + 1 ≡ length xs
  unfolding without
  length_without i [] l = absurd (not-suc-le-zero l)
  length_without zero (x ∷ xs) l = add-one _
  length_without (suc i) (x ∷ xs) l = omega (arith, length_without i xs (le_of_suc-le-suc l))

  pub get_or_without : (i : ℕ) (xs : List A) (k : ℕ) (d : A) → i ≤ k → get_or (without i xs) k d ≡ get_or xs (suc k) d
  unfolding without
  get_or_without i [] k d l = refl
  get_or_without zero (x ∷ xs) k d l = refl
  get_or_without (suc i) (x ∷ xs) zero d l = absurd (not-suc-le-zero l)
  get_or_without (suc i) (x ∷ xs) (suc k) d l = get_or_without i xs k d (le_of_suc-le-suc l)

  pub take_of_without : (i n : ℕ) (xs : List A) → i ≤ n → take n (without i xs) ≡ without i (take (suc n) xs)
  unfolding without
  take_of_without i n [] l = take-nil n
  take_of_without zero n (x ∷ xs) l = refl
  take_of_without (suc i) zero (x ∷ xs) l = absurd (not-suc-le-zero l)
  take_of_without (suc i) (suc n) (x ∷ xs) l = ap (λ (r : List A). x ∷ r) (take_of_without i n xs (le_of_suc-le-suc l))

  pub shift_start : (i : ℕ) (xs : List A) → shifted i i xs ≡ xs
  unfolding shifted
  shift_start i xs = rw take_without (take-append-drop i xs)

  pub length_shifted : (i k : ℕ) (xs : List A) → i < length xs → k < length xs → length (shifted i k xs) ≡ length xs
  unfolding shifted
  length_shifted i k xs h l = simp (length-append, length-take, length-drop) (omega (arith, length_without i xs h))

  pub shift_step : (i k : ℕ) (xs : List A) (d : A) → i ≤ k → k + 1 < length xs → set (shifted i k xs) k (get_or (shifted i k xs) (k + 1) d) ≡ shifted i (k + 1) xs
  unfolding shifted
  shift_step i k xs d h l =
      let w : k < length (without i xs) = omega (arith, length_without i xs (omega arith)) in
      let kx : k < length xs = omega arith in
      let e : length (take k (without i xs)) ≡ k = length-take-le k (without i xs) (omega arith) in
      let x : get_or (take k (without i xs) ++ drop k xs) (k + 1) d ≡ get_or (without i xs) k d =
      rw e at (get_or-append-add (take k (without i xs)) (drop k xs) 1 d) ∙ get_or-drop k xs 1 d ∙ rw add-one (sym (get_or_without i xs k d h)) in
      rw (x, drop-cons xs k d, set_at (take k (without i xs)) (get_or xs k d) (drop (suc k) xs) (get_or (without i xs) k d) k e, add-one, take-suc (without i xs) k d) (sym (append_snoc (take k (without i xs)) (get_or (without i xs) k d) (drop (suc k) xs)))

  pub shift_end : (i n : ℕ) (xs : List A) (b : A) → i < n → n ≤ length xs → set (shifted i (n - 1) xs) (n - 1) b ≡ without i (take n xs) ++ b ∷ drop n xs
  unfolding shifted
  shift_end i zero xs b h l = absurd (not-suc-le-zero h)
  shift_end i (suc m) xs b h l =
      let w : m ≤ length (without i xs) = omega (arith, length_without i xs (omega arith)) in
      rw (sub-one, drop-cons xs m b, set_at (take m (without i xs)) (get_or xs m b) (drop (suc m) xs) b m (length-take-le m (without i xs) w), take_of_without i m xs (le_of_suc-le-suc h))

-- a search ends at the end at the latest
pub index_bound : {A : Type 0} (p : A → Bool) (xs : List A) → index_by p xs ≤ length xs
index_bound p [] = omega arith
index_bound p (x ∷ xs) = go (p x) (index_bound p xs)
  where
    go : (b : Bool) → index_by p xs ≤ length xs → cond b 0 (suc (index_by p xs)) ≤ suc (length xs)
    go true h = omega arith
    go false h = omega arith

-- what `position` finds, or the length where it finds nothing
pub index_position : {A : Type 0} (p : A → Bool) (xs : List A) → unwrap_or (position p xs) (length xs) ≡ index_by p xs
index_position p xs =
    rw (sym (is_position_or_len (index_by p) p refl (λ x l. ap (cond (p x) 0) (sym (one-add (index_by p l)))) xs))
    (by_cond (λ (o : Option ℕ). unwrap_or o (length xs) ≡ index_by p xs) (ltb (index_by p xs) (length xs)) (λ e. refl)
    (λ e. omega (arith, ltb-false (index_by p xs) (length xs) e, index_bound p xs)))
