-- A context of more than 64 octets is refused whatever else it has, so the first 65 octets of one say all.
-- Assumes nothing.
use Prim.Native.Nat.{ℕ, min, ◌≤◌}
use mathlib.Core.Path.{◌≡◌, refl, sym, ap, subst, ◌∙◌}
use mathlib.Core.Bool.{Bool, true, false, cond, not}
use mathlib.Core.List.{List, ◌++◌}
use Rattle.std.specs.Prelude.{Option}
use native.Mathlib.Omega.{arith}
use lib.Dec.{ltb}
use lib.ListN.{length, take, drop}
use lib.Seq.{take_all, take-length, take-append_seam, length-take-le}
use borrow.Author.Tests.{lt-ltb, ltb-true, ltb-false}
use Rattle.lists.specs.Table.{accepts}
use Rattle.lists.proofs.Copies.{copied_front}
use Rattle.machine.specs.Stations.{Station, is_group}
use Rattle.machine.specs.Network as floor
use Rattle.machine.specs.Events.{join, event_tests, refusal, quiet, step, unknown_point, group_address, Outcome}
use Rattle.machine.proofs.Held.{step_refused}
use Rattle.structs.specs.declared.Network.{Network}
use Rattle.network.specs.Lens.{get}
use Rattle.network.specs.Events.{valid_network_record, reply_of, event_of, refused}

-- of 65 octets, the first n are the first min n 65
pub cut : (n : ℕ) (x : List ℕ) → length x ≡ 65 → take (min n 65) x ≡ take n x
cut n x e = go (ltb 65 n) refl
  where
    go : (b : Bool) → ltb 65 n ≡ b → take (min n 65) x ≡ take n x
    go true p =
        let h : 65 ≤ n = omega (arith, ltb-true 65 n p) in
        let m : min n 65 ≡ 65 = omega arith in
        rw m (take_all 65 x (omega (arith, e)) ∙ sym (take_all n x (omega (arith, e, h))))
    go false p =
        let h : n ≤ 65 = ltb-false 65 n p in
        let m : min n 65 ≡ n = omega arith in
        rw m refl

-- the first n octets of c, where n is min (length c) 65, copied over the front of b to o
pub copied : (c b o : List ℕ) (n : ℕ) → n ≡ min (length c) 65 → o ≡ take (length (take n c)) (take n c) ++ drop (length (take n c)) b → take n o ≡ take 65 c
copied c b o n e eo =
    let l : length (take n c) ≡ n = length-take-le n c (omega (arith, e)) in
    let f : o ≡ take n c ++ drop n b = eo ∙ copied_front n c b (omega (arith, e)) in
    let g : take n (take n c ++ drop n b) ≡ take n c = subst (λ (k : ℕ). take k (take n c ++ drop n b) ≡ take n c) l (take-append_seam (take n c) (drop n b)) in
    ap (take n) f ∙ g ∙ ap (λ (k : ℕ). take k c) e ∙ go (ltb 65 (length c)) refl
  where
    go : (t : Bool) → ltb 65 (length c) ≡ t → take (min (length c) 65) c ≡ take 65 c
    go true p =
        let h = ltb-true 65 (length c) p in
        let m : min (length c) 65 ≡ 65 = omega (arith, h) in
        rw m refl
    go false p =
        let h : length c ≤ 65 = ltb-false 65 (length c) p in
        let m : min (length c) 65 ≡ length c = omega (arith, h) in
        rw m (take-length c ∙ sym (take_all 65 c h))

-- 9, or a number that is tested before it
late : (x y z : Bool) → accepts (cond x 11 (cond y 13 (cond z 7 9))) ≡ false
late true y z = refl
late false true z = refl
late false false true = refl
late false false false = refl

module _ (f : floor.Network) (b : ℕ) (s : Station) (n : ℕ) (old : Option ℕ) where
  too_long : (c : List ℕ) → ltb 64 (length c) ≡ true → accepts (refusal f (join b s n old c)) ≡ false
  unfolding refusal event_tests unknown_point group_address
  too_long c e = rw e (late (not (ltb b (length f.points))) (is_group s) (ltb 4095 n))

  same_number : (c d : List ℕ) → ltb 64 (length c) ≡ true → ltb 64 (length d) ≡ true → refusal f (join b s n old c) ≡ refusal f (join b s n old d)
  unfolding refusal event_tests
  same_number c d e g = rw (e, g) refl

  -- two contexts that are both too long
  alike : (c d : List ℕ) → ltb 64 (length c) ≡ true → ltb 64 (length d) ≡ true → step f 0 (join b s n old c) ≡ step f 0 (join b s n old d)
  alike c d e g =
      step_refused f 0 (join b s n old c) (too_long c e) ∙ ap (λ (k : ℕ). quiet k f) (same_number c d e g)
      ∙ sym (step_refused f 0 (join b s n old d) (too_long d g))

  step_cut : (c : List ℕ) → step f 0 (join b s n old (take 65 c)) ≡ step f 0 (join b s n old c)
  step_cut c = go (ltb 65 (length c)) refl
    where
      go : (t : Bool) → ltb 65 (length c) ≡ t → step f 0 (join b s n old (take 65 c)) ≡ step f 0 (join b s n old c)
      go true p =
          let h = ltb-true 65 (length c) p in
          let l : length (take 65 c) ≡ 65 = length-take-le 65 c (omega (arith, h)) in
          alike (take 65 c) c (lt-ltb 64 (length (take 65 c)) (omega (arith, l))) (lt-ltb 64 (length c) (omega (arith, h)))
      go false p = ap (λ (d : List ℕ). step f 0 (join b s n old d)) (take_all 65 c (ltb-false 65 (length c) p))

-- a join with the first 65 octets of a context is the join with all of it
pub join_cut : (w : Network) (b : ℕ) (s : Station) (n : ℕ) (old : Option ℕ) (c : List ℕ) → event_of w (join b s n old (take 65 c)) ≡ event_of w (join b s n old c)
unfolding event_of
join_cut w b s n old c = ap (λ (o : Outcome). cond (valid_network_record w) (reply_of w o) (refused 14 w)) (step_cut (get w) b s n old c)
