-- What a list holds after others were copied into it from the front.
-- Assumes nothing.
use Prim.Native.Nat.{ℕ, ◌+◌, ◌-◌, ◌≤◌}
use mathlib.Core.Path.{◌≡◌, ◌∙◌}
use mathlib.Core.List.{List, ◌++◌, append-nil}
use native.Mathlib.Omega.{arith}
use native.Mathlib.Nat.{le_refl}
use lib.ListN.{length, take, drop, length-drop, drop_of_length-le}
use lib.Seq.{take-length, take_at, drop_at, drop-drop, take-take, length-take-le}
use Rattle.lists.proofs.Fronts.{rest_from}

-- the first k of x, copied to the front of b
pub copied_front : (k : ℕ) (x b : List ℕ) → k ≤ length x
    → take (length (take k x)) (take k x) ++ drop (length (take k x)) b ≡ take k x ++ drop k b
copied_front k x b h = simp (length-take-le k x h, take-take k k x (le_refl k))

-- the part from a on, lent and come back as y
pub put_back_lem : (a : ℕ) (l y : List ℕ) → take a l ++ (y ++ drop (length l - a) (drop a l)) ≡ take a l ++ y
put_back_lem a l y =
    let r : length (drop a l) ≤ length l - a = omega (arith, length-drop a l) in
    simp (drop_of_length-le (drop a l) r, append-nil)

-- f copied to the front of b, and then x to the part from k on, where f has k elements
pub placed : (k : ℕ) (f x b l m : List ℕ) → length f ≡ k
    → l ≡ take (length f) f ++ drop (length f) b
    → m ≡ take (length x) x ++ drop (length x) (take (length l - k) (drop k l))
    → take k l ++ (m ++ drop (length l - k) (drop k l)) ≡ f ++ (x ++ drop (k + length x) b)
placed k f x b l m n el em =
    let e : l ≡ f ++ drop k b = el ∙ rw (take-length f, n) in
    let g : m ≡ x ++ drop (length x) (drop k l) = em ∙ rw (rest_from l k, take-length x) in
    put_back_lem k l m ∙ rw (g, e, take_at f (drop k b) k n, drop_at f (drop k b) k n, drop-drop (length x) k b)
