-- Texts put into an array one after the other: what the array holds, and the place after them.
-- Assumes nothing.
use Rattle.std.proofs.Common.{◌≡◌, sym, ap, ◌∙◌, refl, ℕ, ◌+◌, ◌≤◌, List, ◌++◌, append_assoc, append-nil, Bool, true, false, leb, length, take, drop, length-append, zero-add, arith}
use borrow.Author.Tests.{leb-true, leb-false}
use lib.ListN.{drop_of_length-le}
use lib.Seq.{take_all, take_at, drop_at, drop-drop, length-take-le}
use Rattle.script.specs.Put.{over, front}

within : (at : ℕ) (x y b : List ℕ) → at ≤ length b → over (at + length x) y (over at x b) ≡ over at (x ++ y) b
within at x y b h =
    let k : ℕ = at + length x in
    let p : List ℕ = take at b ++ x in
    let n : length p ≡ k = length-append (take at b) x ∙ ap (λ (i : ℕ). i + length x) (length-take-le at b h) in
    let e : over at x b ≡ p ++ drop k b = sym (append_assoc (take at b) x (drop k b)) in
    let s : k + length y ≡ at + length (x ++ y) = omega (arith, length-append x y) in
    let d : drop (k + length y) (p ++ drop k b) ≡ drop (at + length (x ++ y)) b =
    sym (drop-drop (length y) k (p ++ drop k b)) ∙ ap (drop (length y)) (drop_at p (drop k b) k n) ∙ drop-drop (length y) k b ∙ ap (λ (i : ℕ). drop i b) s in
    rw (e, take_at p (drop k b) k n, d) (simp append_assoc)

past : (at : ℕ) (x b : List ℕ) → length b ≤ at → over at x b ≡ b ++ x
past at x b h =
    let k : length b ≤ at + length x = omega arith in
    rw (take_all at b h, drop_of_length-le b k, append-nil x)

-- a text, and another at the place after it, are the two as one text
pub over_twice : (at : ℕ) (x y b : List ℕ) → over (at + length x) y (over at x b) ≡ over at (x ++ y) b
over_twice at x y b = go (leb at (length b)) refl
  where
    go : (t : Bool) → leb at (length b) ≡ t → over (at + length x) y (over at x b) ≡ over at (x ++ y) b
    go true e = within at x y b (leb-true at (length b) e)
    go false e =
        let h : length b ≤ at = omega (arith, leb-false at (length b) e) in
        let k : length (b ++ x) ≤ at + length x = omega (arith, length-append b x) in
        rw (past at x b h, past (at + length x) y (b ++ x) k, past at (x ++ y) b h) (append_assoc b x y)

-- b with the text x at its front, and the place after x
pub record Written (x b l : List ℕ) (n : ℕ) : Type 0 where
  pub len : n ≡ length x
  pub octets : l ≡ front x b

pub put_first : (x b l : List ℕ) (n : ℕ) → n ≡ 0 + length x → l ≡ over 0 x b → Written x b l n
put_first x b l n e f = record { len = e ∙ zero-add (length x); octets = f ∙ rw zero-add }

pub put_next : {x b l : List ℕ} {n : ℕ} (y m : List ℕ) (k : ℕ) → Written x b l n → k ≡ n + length y → m ≡ over n y l → Written (x ++ y) b m k
put_next {x = x} {b = b} {l = l} {n = n} y m k w e f =
    let z : over (length x) y (front x b) ≡ front (x ++ y) b = rw (zero-add (length x), zero-add (length (x ++ y))) at (over_twice 0 x y b) in
    record { len = e ∙ omega (arith, w.len, length-append x y); octets = f ∙ ap (λ (i : ℕ). over i y l) w.len ∙ ap (over (length x) y) w.octets ∙ z }
