-- A tick at one open move after the other: which it keeps, and which it sends again.
-- Assumes nothing.
use Prim.Native.Nat.{ℕ, suc, ◌+◌, ◌-◌, ◌<◌, ◌≤◌}
use mathlib.Core.Path.{◌≡◌, refl, sym, ap, ◌∙◌}
use mathlib.Core.Bool.{Bool, true, false, cond}
use mathlib.Core.List.{List, [], ◌∷◌, ◌++◌, map, append-nil}
use native.Mathlib.Omega.{arith}
use native.Mathlib.Numerals.{add-one}
use borrow.Author.Tests.{ltb-true}
use lib.Dec.{ltb}
use lib.ListN.{length, take, get_or}
use lib.Seq.{take-suc, length-take-le}
use Rattle.lists.proofs.Choices.{not_both}
use Rattle.structs.specs.declared.Move.{Move}
use Rattle.machine.specs.Moves.{Open, waits, again, lapses, fate, timed, kept_from, kept, resent_by, resends}
use Rattle.structs.specs.Blanks.{no_move}
use Rattle.structs.specs.declared.Moves.{Moves}
use Rattle.slots.proofs.Laws.{put_more}
use Rattle.record.specs.Lens.{named, bare}
use Rattle.structs.specs.Lists.{get_moves, put_moves}
use Rattle.moves.specs.Ticks.{stays, is_due, after}

-- what a read past the end of the array gives, in the logic
abbrev pub past : Move
past = record { station = []; sequence = 0; old = 0; identifier = 0; ticks_left = 0; resends_left = 0 }

-- The elements that pass a test, each changed, in order

abbrev pub picked : {A : Type 0} → (A → Bool) → (A → A) → List A → List A
picked p f [] = []
picked p f (x ∷ xs) = cond (p x) (f x ∷ picked p f xs) (picked p f xs)

module _ {A : Type 0} (p : A → Bool) (f : A → A) where
  pub picked_few : (xs : List A) → length (picked p f xs) ≤ length xs
  picked_few [] = omega arith
  picked_few (x ∷ xs) = go (p x) (picked_few xs)
    where
      go : (b : Bool) → length (picked p f xs) ≤ length xs → length (cond b (f x ∷ picked p f xs) (picked p f xs)) ≤ suc (length xs)
      go true h = omega arith
      go false h = omega arith

  picked_last : (xs : List A) (x : A) → picked p f (xs ++ (x ∷ [])) ≡ picked p f xs ++ cond (p x) (f x ∷ []) []
  picked_last [] x = refl
  picked_last (y ∷ ys) x = rw (picked_last ys x) (go (p y) (picked p f ys) (cond (p x) (f x ∷ []) []))
    where
      go : (b : Bool) (l r : List A) → cond b (f y ∷ (l ++ r)) (l ++ r) ≡ cond b (f y ∷ l) l ++ r
      go true l r = refl
      go false l r = refl

  -- those among the first i, and the element at i
  module _ (xs : List A) (d : A) (i : ℕ) (l : i < length xs) where
    next : picked p f (take (i + 1) xs) ≡ picked p f (take i xs) ++ cond (p (get_or xs i d)) (f (get_or xs i d) ∷ []) []
    next = rw (add-one i, take-suc xs i d l) (picked_last (take i xs) (get_or xs i d))

    pub picked_in : p (get_or xs i d) ≡ true → picked p f (take (i + 1) xs) ≡ picked p f (take i xs) ++ (f (get_or xs i d) ∷ [])
    picked_in e = next ∙ rw e

    pub picked_out : p (get_or xs i d) ≡ false → picked p f (take (i + 1) xs) ≡ picked p f (take i xs)
    picked_out e = next ∙ rw (e, append-nil)

    pub picked_room : length (picked p f (take i xs)) < length xs
    picked_room = omega (arith, picked_few (take i xs), length-take-le i xs (omega arith))

-- The moves that a tick keeps, and those that it sends again, are picked so

kept_by : (b c : Bool) (x y : Open) (ms : List Open)
    → map bare (kept_from (cond b (waits x) (cond c (again y) lapses)) ms)
    ≡ cond (cond (cond b false c) true b) (cond (cond b false c) (bare y) (bare x) ∷ map bare ms) (map bare ms)
unfolding kept_from
kept_by true c x y ms = refl
kept_by false true x y ms = refl
kept_by false false x y ms = refl

resent_by_lem : (b c : Bool) (x y : Open) (ms : List Open)
    → map bare (resent_by (cond b (waits x) (cond c (again y) lapses)) ms)
    ≡ cond (cond b false c) (cond (cond b false c) (bare y) (bare x) ∷ map bare ms) (map bare ms)
unfolding resent_by
resent_by_lem true c x y ms = refl
resent_by_lem false true x y ms = refl
resent_by_lem false false x y ms = refl

pub picked_kept : (t : ℕ) (xs : List Move) → picked stays (after t) xs ≡ map bare (kept t (map named xs))
unfolding kept fate timed named bare stays is_due after
picked_kept t [] = refl
picked_kept t (x ∷ xs) =
    rw (picked_kept t xs)
    (sym (kept_by (ltb 1 x.ticks_left) (ltb 0 x.resends_left) (timed (named x) (x.ticks_left - 1) x.resends_left) (timed (named x) t (x.resends_left - 1)) (kept t (map named xs))))

pub picked_due : (t : ℕ) (xs : List Move) → picked is_due (after t) xs ≡ map bare (resends t (map named xs))
unfolding resends fate timed named bare is_due after
picked_due t [] = refl
picked_due t (x ∷ xs) =
    rw (picked_due t xs)
    (sym (resent_by_lem (ltb 1 x.ticks_left) (ltb 0 x.resends_left) (timed (named x) (x.ticks_left - 1) x.resends_left) (timed (named x) t (x.resends_left - 1)) (resends t (map named xs))))

-- a move that is sent again stays open
pub due_stays : (m : Move) → is_due m ≡ true → stays m ≡ true
unfolding stays
due_stays m e = rw e

-- and has a resend left; one that stays open else has a tick left after this one
pub due_left : (m : Move) → is_due m ≡ true → 0 < m.resends_left
unfolding is_due
due_left m e = ltb-true 0 m.resends_left (go (ltb 1 m.ticks_left) (ltb 0 m.resends_left) e)
  where
    go : (b c : Bool) → cond b false c ≡ true → c ≡ true
    go true c e = not_both e refl
    go false c e = e

pub waits_left : (m : Move) → stays m ≡ true → is_due m ≡ false → 1 < m.ticks_left
unfolding stays
waits_left m s d = ltb-true 1 m.ticks_left (rw d at s)

-- Moves put down in the place of those of a record, among the first i of the used moves of another

module _ (p : Move → Bool) (f : Move → Move) (t o : Moves) (xs : List Move) (i : ℕ) (l : i < length xs) (e : o ≡ put_moves t (picked p f (take i xs))) where
  pub room : o.count < length xs
  room = omega (arith, ap (λ (w : Moves). w.count) e, picked_room p f xs past i l)

  pub put_in : p (get_or xs i past) ≡ true
      → put_moves o (get_moves o ++ (f (get_or xs i past) ∷ [])) ≡ put_moves t (picked p f (take (i + 1) xs))
  put_in a =
      ap (λ (w : Moves). put_moves w (get_moves w ++ (f (get_or xs i past) ∷ []))) e
      ∙ put_more (λ (ms : List Move) (n : ℕ). record { items = ms; count = n }) no_move t.count t.items (picked p f (take i xs)) (f (get_or xs i past))
      ∙ ap (put_moves t) (sym (picked_in p f xs past i l a))

  pub put_out : p (get_or xs i past) ≡ false → o ≡ put_moves t (picked p f (take (i + 1) xs))
  put_out a = e ∙ ap (put_moves t) (sym (picked_out p f xs past i l a))
