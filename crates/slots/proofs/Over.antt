-- Laws of a list written over the front of an array.
-- Assumes nothing.
use Prim.Native.Nat.{ℕ, zero, suc, ◌+◌, ◌-◌, ◌<◌, ◌≤◌}
use Rattle.std.specs.List.{copy_within}
use mathlib.Core.Bool.{Bool, true, false}
use mathlib.Core.Path.{◌≡◌, refl, sym, ap, ◌∙◌}
use mathlib.Core.List.{List, [], ◌∷◌, ◌++◌, append_assoc}
use mathlib.Core.Logic.{◌⊎◌, inl, inr}
use native.Mathlib.Omega.{arith}
use native.Mathlib.Nat.{add-zero, zero-add, suc-add, not-suc-le-zero}
use native.Mathlib.Numerals.{add-one, sub-one}
use borrow.Author.Tests.{leb-true, leb-false}
use lib.Dec.{leb}
use lib.ListN.{length, take, drop, get_or, replicate, set, take-append-drop, length-append, length-replicate, length-take, length-drop, length-set, drop_of_length-le, replicate-append-replicate}
use lib.Seq.{length-take-le, take_all, drop-cons, set_at, set_split, set-append_left, append_snoc, take-append_seam, drop-append_seam, drop-append-add, drop-drop}
use Rattle.lists.specs.Places.{without}
use Rattle.lists.specs.Search.{placed, shifted}
use Rattle.lists.proofs.Search.{get_or_used, length_without, shift_end}
use Rattle.slots.specs.Lists.{over}

pub le_or : (m n : ℕ) → (m ≤ n) ⊎ (n < m)
le_or m n = go (leb m n) refl
  where
    go : (b : Bool) → leb m n ≡ b → (m ≤ n) ⊎ (n < m)
    go true e = inl (leb-true m n e)
    go false e = inr (leb-false m n e)

sub_0 : (m : ℕ) → m ≡ m - 0
sub_0 m = omega arith

none_left : (j : ℕ) → 0 ≡ 0 - suc j
none_left j = omega arith

both_less : (m j : ℕ) → m - j ≡ suc m - suc j
both_less m j = omega arith

module _ {A : Type 0} where
  pub cut : (b : A) (i j p q : ℕ) (z : List A) → i ≡ j → p ≡ q → replicate i b ++ drop p z ≡ replicate j b ++ drop q z
  cut b i j p q z e f = rw (e, f)

  pub drop_rep : (j m : ℕ) (b : A) → drop j (replicate m b) ≡ replicate (m - j) b
  drop_rep zero m b = ap (λ (k : ℕ). replicate k b) (sub_0 m)
  drop_rep (suc j) zero b = ap (λ (k : ℕ). replicate k b) (none_left j)
  drop_rep (suc j) (suc m) b = drop_rep j m b ∙ ap (λ (k : ℕ). replicate k b) (both_less m j)

  -- j places into m blanks and the rest z
  pub drop_blanks : (j m : ℕ) (b : A) (z : List A) → drop j (replicate m b ++ z) ≡ replicate (m - j) b ++ drop (j - m) z
  drop_blanks zero m b z = cut b m (m - 0) 0 (0 - m) z (omega arith) (omega arith)
  drop_blanks (suc j) zero b z = cut b 0 (0 - suc j) (suc j) (suc j - 0) z (omega arith) (omega arith)
  drop_blanks (suc j) (suc m) b z = drop_blanks j m b z ∙ cut b (m - j) (suc m - suc j) (j - m) (suc j - suc m) z (omega arith) (omega arith)

  pub over_at : (b : A) (n k r : ℕ) (xs old : List A) → length xs ≡ k → n - k ≡ r → over b n xs old ≡ xs ++ (replicate r b ++ drop (k + r) old)
  unfolding over
  over_at b n k r xs old e f = rw (e, f)

  -- put-get
  pub over_take : (b : A) (n : ℕ) (old : List A) → n ≤ length old → over b n (take n old) old ≡ old
  over_take b n old h = over_at b n n 0 (take n old) old (length-take-le n old h) (omega arith) ∙ rw (add-zero n) (take-append-drop n old)

  -- get-put
  pub take_over : (b : A) (n : ℕ) (xs old : List A) → take (length xs) (over b n xs old) ≡ xs
  unfolding over
  take_over b n xs old = take-append_seam xs _

  pub length_over : (b : A) (n : ℕ) (xs old : List A) → n ≤ length old → length xs ≤ length old → length (over b n xs old) ≡ length old
  unfolding over
  length_over b n xs old h k =
      simp (length-append, length-replicate, length-drop) (omega arith)

  -- what follows the list
  pub drop_over : (b : A) (n : ℕ) (xs old : List A) (j : ℕ) → drop (length xs + j) (over b n xs old) ≡ replicate (n - length xs - j) b ++ drop (j - (n - length xs)) (drop (length xs + (n - length xs)) old)
  unfolding over
  drop_over b n xs old j = drop-append-add xs _ j ∙ drop_blanks j (n - length xs) b (drop (length xs + (n - length xs)) old)

  -- put-put: the second list over the first. The first must not have used a slot that the second leaves free and that was not used before.
  pub over_over : (b : A) (n : ℕ) (xs ys old : List A) → (length xs ≤ n) ⊎ (length xs ≤ length ys) → over b (length xs) ys (over b n xs old) ≡ over b n ys old
  over_over b n xs ys old h =
      let k : ℕ = length xs in
      let l : ℕ = length ys in
      let r : ℕ = k - l in
      let e : l + r ≡ k + (l - k) = omega arith in
      over_at b k l r ys (over b n xs old) refl refl
      ∙ ap (λ (z : List A). ys ++ (replicate r b ++ z))
      (ap (λ (i : ℕ). drop i (over b n xs old)) e ∙ drop_over b n xs old (l - k) ∙ ap (λ (z : List A). replicate (n - k - (l - k)) b ++ z) (drop-drop (l - k - (n - k)) (k + (n - k)) old))
      ∙ ap (λ (z : List A). ys ++ z)
      (sym (append_assoc (replicate r b) (replicate (n - k - (l - k)) b) _) ∙ ap (λ (z : List A). z ++ drop (k + (n - k) + (l - k - (n - k))) old) (replicate-append-replicate r (n - k - (l - k)) b)
      ∙ blanks h)
      ∙ sym (over_at b n l (n - l) ys old refl refl)
    where
      blanks : (length xs ≤ n) ⊎ (length xs ≤ length ys)
          → replicate (length xs - length ys + (n - length xs - (length ys - length xs))) b ++ drop (length xs + (n - length xs) + (length ys - length xs - (n - length xs))) old
          ≡ replicate (n - length ys) b ++ drop (length ys + (n - length ys)) old
      blanks (inl h) = cut b (length xs - length ys + (n - length xs - (length ys - length xs))) (n - length ys) (length xs + (n - length xs) + (length ys - length xs - (n - length xs))) (length ys + (n - length ys)) old (omega arith) (omega arith)
      blanks (inr h) = cut b (length xs - length ys + (n - length xs - (length ys - length xs))) (n - length ys) (length xs + (n - length xs) + (length ys - length xs - (n - length xs))) (length ys + (n - length ys)) old (omega arith) (omega arith)

  -- over an array of blanks
  pub over_new : (b : A) (N : ℕ) (xs : List A) → over b 0 xs (replicate N b) ≡ xs ++ replicate (N - length xs) b
  over_new b N xs =
      over_at b 0 (length xs) 0 xs (replicate N b) refl (omega arith)
      ∙ ap (λ (z : List A). xs ++ z) (ap (λ (i : ℕ). drop i (replicate N b)) (add-zero (length xs)) ∙ drop_rep (length xs) N b)

  -- there put-put has no condition but the size
  pub over_blank : (b : A) (N : ℕ) (xs ys : List A) → length xs ≤ N → length ys ≤ N → over b (length xs) ys (over b 0 xs (replicate N b)) ≡ over b 0 ys (replicate N b)
  over_blank b N xs ys h k =
      let e : length ys + (length xs - length ys) ≡ length xs + (length ys - length xs) = omega arith in
      let f : length xs - length ys + (N - length xs - (length ys - length xs)) ≡ N - length ys = omega arith in
      ap (over b (length xs) ys) (over_new b N xs)
      ∙ over_at b (length xs) (length ys) (length xs - length ys) ys (xs ++ replicate (N - length xs) b) refl refl
      ∙ ap (λ (z : List A). ys ++ z)
      (ap (λ (z : List A). replicate (length xs - length ys) b ++ z)
      (ap (λ (i : ℕ). drop i (xs ++ replicate (N - length xs) b)) e ∙ drop-append-add xs (replicate (N - length xs) b) (length ys - length xs) ∙ drop_rep (length ys - length xs) (N - length xs) b)
      ∙ replicate-append-replicate (length xs - length ys) (N - length xs - (length ys - length xs)) b
      ∙ ap (λ (i : ℕ). replicate i b) f)
      ∙ sym (over_new b N ys)

  -- what is not used is blank
  pub unused_blank : (b : A) (N : ℕ) (xs : List A) → drop (length xs) (over b 0 xs (replicate N b)) ≡ replicate (N - length xs) b
  unused_blank b N xs = ap (drop (length xs)) (over_new b N xs) ∙ drop-append_seam xs (replicate (N - length xs) b)

  -- the elements before place i, and k of those after it
  without_split : (i k : ℕ) (xs : List A) → i + k < length xs → without i (take (suc (i + k)) xs) ≡ take i xs ++ take k (drop (i + 1) xs)
  unfolding without
  without_split i k [] h = absurd (not-suc-le-zero h)
  without_split zero k (x ∷ xs) h = rw zero-add
  without_split (suc i) k (x ∷ xs) h =
      rw (suc-add i k, add-one) (ap (λ (l : List A). x ∷ l) (without_split i k xs (omega arith) ∙ rw add-one))

  -- an element taken out, the later ones moved up and the freed slot blanked
  pub removed : (b : A) (i n : ℕ) (xs : List A) → i < n → n ≤ length xs → set (copy_within xs (i + 1) n i) (n - 1) b ≡ over b n (without i (take n xs)) xs
  removed b i zero xs h l = absurd (not-suc-le-zero h)
  removed b i (suc m) xs h l =
      let k : ℕ = m - i in
      let j : suc m - (i + 1) ≡ k = omega arith in
      let s : i + k ≡ m = omega arith in
      let w : without i (take (suc m) xs) ≡ take i xs ++ take k (drop (i + 1) xs) =
      ap (λ (n : ℕ). without i (take (suc n) xs)) (sym s) ∙ without_split i k xs (omega arith) in
      let e : length (take i xs ++ take k (drop (i + 1) xs)) ≡ m =
      simp (length-append, length-take, length-drop) (omega arith) in
      rw (sub-one, j, s, drop-cons xs m b, set_at (take i xs ++ take k (drop (i + 1) xs)) (get_or xs m b) (drop (suc m) xs) b m e)
      (ap (λ (l : List A). l ++ (b ∷ drop (suc m) xs)) (sym w)
      ∙ sym (over_at b (suc m) m 1 (without i (take (suc m) xs)) xs (ap length w ∙ e) (omega arith) ∙ ap (λ (n : ℕ). without i (take (suc m) xs) ++ (b ∷ drop n xs)) (add-one m)))

  -- the same by a loop that moves the later ones one by one
  pub shifted_out : (b : A) (i n : ℕ) (xs : List A) → i < n → n ≤ length xs → set (shifted i (n - 1) xs) (n - 1) b ≡ over b n (without i (take n xs)) xs
  shifted_out b i n xs h l =
      let t : length (take n xs) ≡ n = length-take-le n xs l in
      let e : length (without i (take n xs)) ≡ n - 1 = omega (arith, length_without i (take n xs) (omega arith)) in
      let f : n - 1 + 1 ≡ n = omega arith in
      shift_end i n xs b h l ∙ sym (over_at b n (n - 1) 1 (without i (take n xs)) xs e (omega arith) ∙ ap (λ (k : ℕ). without i (take n xs) ++ (b ∷ drop k xs)) f)

  -- an element added last
  pub pushed : (b : A) (n : ℕ) (xs : List A) (p : A) → n < length xs → set xs n p ≡ over b n (take n xs ++ (p ∷ [])) xs
  pushed b n xs p h =
      let t : length (take n xs) ≡ n = length-take-le n xs (omega arith) in
      let e : length (take n xs ++ (p ∷ [])) ≡ suc n = omega (arith, length-append (take n xs) (p ∷ [])) in
      let f : suc n + 0 ≡ suc n = omega arith in
      set_split xs n p h ∙ sym (append_snoc (take n xs) p (drop (suc n) xs))
      ∙ sym (over_at b n (suc n) 0 (take n xs ++ (p ∷ [])) xs e (omega arith) ∙ ap (λ (k : ℕ). (take n xs ++ (p ∷ [])) ++ drop k xs) f)

  -- an element placed in a list
  pub placed_in : (i : ℕ) (x : A) (xs : List A) → i < length xs → placed i x xs ≡ set xs i x
  unfolding placed
  placed_in i x xs h = rw add-one (sym (set_split xs i x h))

  pub placed_last : (i : ℕ) (x : A) (xs : List A) → length xs ≡ i → placed i x xs ≡ xs ++ (x ∷ [])
  unfolding placed
  placed_last i x xs e =
      let h : length xs ≤ i + 1 = omega arith in
      rw (take_all i xs (omega arith), drop_of_length-le xs h)

  -- an element in the place of another
  pub replaced : (b : A) (n i : ℕ) (x : A) (xs : List A) → i < n → n ≤ length xs → set xs i x ≡ over b n (placed i x (take n xs)) xs
  replaced b n i x xs h l =
      let m : length (take n xs) ≡ n = length-take-le n xs l in
      let e : length (placed i x (take n xs)) ≡ n = ap length (placed_in i x (take n xs) (omega arith)) ∙ length-set (take n xs) i x ∙ m in
      ap (λ (l : List A). set l i x) (sym (take-append-drop n xs)) ∙ set-append_left (take n xs) (drop n xs) i x (omega arith)
      ∙ ap (λ (l : List A). l ++ drop n xs) (sym (placed_in i x (take n xs) (omega arith)))
      ∙ sym (over_at b n n 0 (placed i x (take n xs)) xs e (omega arith) ∙ rw (add-zero n))

  -- no elements
  pub cleared : (b : A) (n : ℕ) (xs : List A) → replicate n b ++ drop n xs ≡ over b n [] xs
  cleared b n xs = sym (over_at b n 0 n [] xs refl (omega arith) ∙ rw zero-add)

  -- one more slot blanked
  pub blank_more : (b : A) (xs : List A) (i : ℕ) → i < length xs → set (replicate i b ++ drop i xs) i b ≡ replicate (i + 1) b ++ drop (i + 1) xs
  blank_more b xs i l =
      rw (drop-cons xs i b) (set_at (replicate i b) (get_or xs i b) (drop (suc i) xs) b i (length-replicate i b))
      ∙ sym (append_snoc (replicate i b) b (drop (suc i) xs))
      ∙ ap (λ (z : List A). z ++ drop (suc i) xs) (replicate-append-replicate i 1 b)
      ∙ ap (λ (k : ℕ). replicate (i + 1) b ++ drop k xs) (sym (add-one i))

-- the first n elements, from i on
module _ {A : Type 0} (d : A) (n : ℕ) (xs : List A) (i : ℕ) (l : n ≤ length xs) where
  pub used_at : i < n → drop i (take n xs) ≡ get_or xs i d ∷ drop (i + 1) (take n xs)
  used_at k =
      let m : length (take n xs) ≡ n = length-take-le n xs l in
      rw add-one (drop-cons (take n xs) i d (omega arith) ∙ ap (λ (x : A). x ∷ drop (suc i) (take n xs)) (get_or_used n xs i d d k l))

  pub used_end : n ≤ i → drop i (take n xs) ≡ []
  used_end k =
      let h : length (take n xs) ≤ i = omega (arith, length-take-le n xs l) in
      drop_of_length-le (take n xs) h
