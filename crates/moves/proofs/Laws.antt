-- Laws of the open moves: what a search for a packet's move finds, what is left when it closes, how many a tick keeps, sends again
-- and gives up, and what a count becomes. Assumes nothing.
use Prim.Native.Nat.{ℕ, suc, ◌+◌, ◌%◌, ◌^◌, ◌<◌, ◌≤◌}
use mathlib.Core.Path.{◌≡◌, refl, sym, ap, ◌∙◌}
use mathlib.Core.Bool.{Bool, true, false, cond}
use mathlib.Core.List.{List, [], ◌∷◌, map}
use Rattle.std.specs.Prelude.{Option, None, Some}
use native.Mathlib.Omega.{arith}
use native.Mathlib.Nat.{add-zero, mod-eq_of_lt, mod-add-mod}
use lib.Dec.{ltb, leb-suc-suc, leb-zero}
use lib.ListN.{length, get_or, length-map}
use Rattle.lists.specs.Places.{without}
use Rattle.lists.specs.Search.{index_by}
use Rattle.structs.specs.declared.Move.{Move}
use Rattle.machine.specs.Packets.{Packet}
use Rattle.machine.specs.Moves.{Open, Fate, waits, again, lapses, fate, agrees, earliest, close, kept_from, kept, resent_by, resends, lapsed_by, lapsed, counted}
use Rattle.record.specs.Lens.{named, bare}
use Rattle.record.proofs.LensLaws.{bare_named}
use Rattle.moves.specs.Asked.{asked}

-- Only identifier, station and sequence number of a packet matter

-- what a search for the packet's move asks for
abbrev pub asked_by : Packet → Packet
asked_by p = asked p.identifier p.station p.sequence

pub earliest_asked : (from : ℕ) (p : Packet) (ms : List Open) → earliest from p ms ≡ earliest from (asked_by p) ms
unfolding earliest agrees
earliest_asked from p [] = refl
earliest_asked from p (m ∷ ms) = ap (λ (o : Option Open). cond (agrees from p m.move) (Some m) o) (earliest_asked from p ms)

pub close_asked : (from : ℕ) (p : Packet) (ms : List Open) → close from p ms ≡ close from (asked_by p) ms
unfolding close agrees
close_asked from p [] = refl
close_asked from p (m ∷ ms) = ap (λ (l : List Open). cond (agrees from p m.move) ms (m ∷ l)) (close_asked from p ms)

-- The earliest move that agrees stands at the place that the search yields, and closing it takes that place out

pub earliest_at : (from : ℕ) (p : Packet) (xs : List Move) (d : Move)
    → earliest from p (map named xs)
    ≡ cond (ltb (index_by (agrees from p) xs) (length xs)) (Some (named (get_or xs (index_by (agrees from p) xs) d))) None
unfolding earliest named
earliest_at from p [] d = refl
earliest_at from p (x ∷ xs) d = go (agrees from p x) (earliest_at from p xs d)
  where
    go : (b : Bool)
        → earliest from p (map named xs)
        ≡ cond (ltb (index_by (agrees from p) xs) (length xs)) (Some (named (get_or xs (index_by (agrees from p) xs) d))) None
        → cond b (Some (named x)) (earliest from p (map named xs))
        ≡ cond (ltb (cond b 0 (suc (index_by (agrees from p) xs))) (suc (length xs)))
        (Some (named (get_or (x ∷ xs) (cond b 0 (suc (index_by (agrees from p) xs))) d))) None
    go true e = rw (leb-suc-suc 0 (length xs), leb-zero (length xs))
    go false e = e ∙ rw (leb-suc-suc (suc (index_by (agrees from p) xs)) (length xs))

pub close_at : (from : ℕ) (p : Packet) (xs : List Move)
    → map bare (close from p (map named xs)) ≡ without (index_by (agrees from p) xs) xs
unfolding close without bare named
close_at from p [] = refl
close_at from p (x ∷ xs) = go (agrees from p x) (close_at from p xs)
  where
    go : (b : Bool) → map bare (close from p (map named xs)) ≡ without (index_by (agrees from p) xs) xs
        → map bare (cond b (map named xs) (named x ∷ close from p (map named xs)))
        ≡ without (cond b 0 (suc (index_by (agrees from p) xs))) (x ∷ xs)
    go true e = bare_named xs
    go false e = ap (◌∷◌ x) e

-- A tick keeps a move or gives it up

module _ (t : ℕ) where
  pub kept_lapsed : (ms : List Open) → length (kept t ms) + length (lapsed t ms) ≡ length ms
  unfolding kept lapsed kept_from lapsed_by
  kept_lapsed [] = omega arith
  kept_lapsed (m ∷ ms) = go (fate t m) (kept_lapsed ms)
    where
      go : (f : Fate) → length (kept t ms) + length (lapsed t ms) ≡ length ms
          → length (kept_from f (kept t ms)) + length (lapsed_by f m (lapsed t ms)) ≡ suc (length ms)
      go (waits x) e = omega arith
      go (again x) e = omega arith
      go lapses e = omega arith

  pub kept_few : (ms : List Open) → length (map bare (kept t ms)) ≤ length ms
  kept_few ms = simp length-map (omega (arith, kept_lapsed ms))

  pub lapsed_few : (ms : List Open) → length (lapsed t ms) ≤ length ms
  lapsed_few ms = omega (arith, kept_lapsed ms)

  pub resends_few : (ms : List Open) → length (resends t ms) ≤ length ms
  unfolding resends resent_by
  resends_few [] = omega arith
  resends_few (m ∷ ms) = go (fate t m) (resends_few ms)
    where
      go : (f : Fate) → length (resends t ms) ≤ length ms → length (resent_by f (resends t ms)) ≤ suc (length ms)
      go (waits x) e = omega arith
      go (again x) e = omega arith
      go lapses e = omega arith

-- A count goes on by the number of moves, and wraps

pub counted_none : (c : ℕ) → counted c [] ≡ c
unfolding counted
counted_none c = refl

pub counted_all : (c : ℕ) (ms : List Open) → c < 2 ^ 32 → counted c ms ≡ (c + length ms) % 2 ^ 32
unfolding counted
counted_all c [] h = rw add-zero (sym (mod-eq_of_lt h))
counted_all c (m ∷ ms) h =
    let l : (c + 1) % 2 ^ 32 < 2 ^ 32 = omega arith in
    let e : c + 1 + length ms ≡ c + suc (length ms) = omega arith in
    counted_all ((c + 1) % 2 ^ 32) ms l ∙ mod-add-mod (c + 1) (2 ^ 32) (length ms) ∙ ap (λ (k : ℕ). k % 2 ^ 32) e
