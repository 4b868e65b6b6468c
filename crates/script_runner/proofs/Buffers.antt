-- Texts put into a buffer one after the other.
-- Assumes nothing.
use Prim.Native.Nat.{ℕ, ◌+◌, ◌-◌, ◌≤◌}
use mathlib.Core.Path.{◌≡◌, refl, sym, ap, ◌∙◌}
use mathlib.Core.List.{List, ◌++◌, append_assoc}
use native.Mathlib.Omega.{arith}
use lib.ListN.{length, take, drop, length-append, length-drop}
use lib.Seq.{take_at, drop_at, drop-drop, take-add, length-take-le}
use Rattle.lists.proofs.Copies.{put_back_lem}
use Rattle.lists.proofs.Fronts.{rest_from}
use Rattle.script.specs.Put.{over, front}

-- with the text x at its front
pub put_over : (a : ℕ) (l x m : List ℕ) → m ≡ front x (take (length l - a) (drop a l)) → take a l ++ (m ++ drop (length l - a) (drop a l)) ≡ over a x l
put_over a l x m e =
    let g : m ≡ x ++ drop (a + length x) l = e ∙ rw (rest_from l a, drop-drop (length x) a l) in
    put_back_lem a l m ∙ rw g

pub over_length : (a : ℕ) (x b : List ℕ) → a + length x ≤ length b → length (over a x b) ≡ length b
over_length a x b h =
    omega (arith, h, length-append (take a b) (x ++ drop (a + length x) b), length-append x (drop (a + length x) b), length-take-le a b (omega (arith, h)), length-drop (a + length x) b)

-- Of a text t, k octets stand at the front of the buffer b; x is what comes next, and y the rest

module _ (t x y : List ℕ) (k : ℕ) (next : drop k t ≡ x ++ y) (h : k ≤ length t) where
  size : length t ≡ k + (length x + length y)
  size =
      let e : length (drop k t) ≡ length (x ++ y) = ap length next in
      omega (arith, e, length-drop k t, length-append x y)

  pub next_within : k + length x ≤ length t
  next_within = omega (arith, size)

  pub next_drop : drop (k + length x) t ≡ y
  next_drop = sym (drop-drop (length x) k t) ∙ rw next (drop_at x y (length x) refl)

  pub next_front : (b : List ℕ) → over k x (take k t ++ drop k b) ≡ take (k + length x) t ++ drop (k + length x) b
  next_front b =
      let n : length (take k t) ≡ k = length-take-le k t h in
      let p : take k (take k t ++ drop k b) ≡ take k t = take_at (take k t) (drop k b) k n in
      let q : drop (k + length x) (take k t ++ drop k b) ≡ drop (k + length x) b = sym (drop-drop (length x) k (take k t ++ drop k b)) ∙ rw (drop_at (take k t) (drop k b) k n) (drop-drop (length x) k b) in
      let r : take (k + length x) t ≡ take k t ++ x = take-add k (length x) t ∙ rw (next, take_at x y (length x) refl) in
      rw (p, q, r) (sym (append_assoc (take k t) x (drop (k + length x) b)))

-- n octets at the front of l are the text t
module _ (n : ℕ) (t b l : List ℕ) (size : n ≡ length t) (is : l ≡ front t b) where
  pub front_fits : n ≤ length l
  front_fits =
      let e : length l ≡ length (front t b) = ap length is in
      omega (arith, size, e, length-append t (drop (length t) b))

  pub front_taken : take n l ≡ t
  front_taken = rw (size, is) (take_at t (drop (length t) b) (length t) refl)

-- A text n of k octets at the front of the buffer b, and then p: n was put into it, and the part from k on came back with p at its front
module _ (k : ℕ) (n p b o : List ℕ) (size : length n ≡ k) (room : k + length p ≤ length b) (f : o ≡ over 0 n b) where
  first_is : o ≡ n ++ drop k b
  first_is = let z : 0 + length n ≡ k = omega (arith, size) in f ∙ rw z

  pub room_left : length p ≤ length (take (length o - k) (drop k o))
  room_left =
      let g : length o ≡ length (n ++ drop k b) = ap length first_is in
      rw (rest_from o k) (omega (arith, g, length-append n (drop k b), size, length-drop k b, length-drop k o, room))

  pub both_written : (q : List ℕ) → q ≡ front p (take (length o - k) (drop k o)) → take k o ++ (q ++ drop (length o - k) (drop k o)) ≡ front (n ++ p) b
  both_written q g =
      put_over k o p q g
      ∙ ap (over k p) first_is
      ∙ rw (take_at n (drop k b) k size, sym (drop-drop (length p) k (n ++ drop k b)), drop_at n (drop k b) k size, drop-drop (length p) k b, length-append n p, size)
      (sym (append_assoc n p (drop (k + length p) b)))
