-- Where a text was put at the front of the buffer, it is what stands there.
-- Assumes nothing.
use Prim.Native.Nat.{ℕ, ◌≤◌}
use mathlib.Core.Path.{◌≡◌, ap, ◌∙◌}
use mathlib.Core.Bool.{Bool, true, false, cond}
use mathlib.Core.List.{List}
use native.Mathlib.Omega.{arith}
use lib.Dec.{ltb}
use lib.ListN.{length, take, drop, length-append}
use lib.Seq.{take-append_seam}
use Rattle.script.specs.Put.{front}
use Rattle.script_runner.specs.Played.{Rehearsed, written_into}

pub placed : (t b : List ℕ) (r : Rehearsed) → r ≡ written_into t b → r.answer ≡ 0 → (r.len ≤ length r.buffer) × (take r.len r.buffer ≡ t)
unfolding written_into
placed t b r e z = go (ltb (length b) (length t)) e
  where
    go : (x : Bool) → r ≡ cond {A = Rehearsed} x (record { answer = 10; len = 0; buffer = b }) (record { answer = 0; len = length t; buffer = front t b }) → (r.len ≤ length r.buffer) × (take r.len r.buffer ≡ t)
    go true q = let a : r.answer ≡ 10 = ap (λ (y : Rehearsed). y.answer) q in absurd (omega (arith, a, z))
    go false q =
        let n : r.len ≡ length t = ap (λ (y : Rehearsed). y.len) q in
        let o : length r.buffer ≡ length (front t b) = ap (λ (y : Rehearsed). length y.buffer) q in
        (omega (arith, n, o, length-append t (drop (length t) b)), ap (λ (y : Rehearsed). take y.len y.buffer) q ∙ take-append_seam t (drop (length t) b))
