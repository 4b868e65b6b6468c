-- What the writer's copies make of the buffer is the definition's.
-- Assumes nothing.
use Prim.Native.Nat.{ℕ, ◌+◌, ◌-◌, ◌≤◌, ◌<◌, ◌/◌, ◌%◌}
use native.Mathlib.Omega.{arith}
use mathlib.Core.Path.{◌≡◌, refl, sym, ap, ◌∙◌}
use mathlib.Core.List.{List, [], ◌++◌, append_assoc}
use borrow.Author.Tests.{le-ltb, ne_eqb}
use lib.ListN.{length, take, drop}
use Rattle.lists.proofs.Copies.{placed}
use Rattle.lists.proofs.Fronts.{exact_ind, six_cons}
use Rattle.packet.specs.Fields.{Fields}
use Rattle.writer.specs.Write.{front_of, octets_of, writer_tests, write_to}

abbrev pub add_fields : ℕ → List ℕ → ℕ → Fields
add_fields i s q = record { command = 0; identifier = i; status = 0; station = s; sequence = q; context = [] }

abbrev pub move_fields : ℕ → ℕ → ℕ → List ℕ → ℕ → List ℕ → Fields
move_fields c t i s q x = record { command = c; identifier = i; status = t; station = s; sequence = q; context = x }

-- an ADD-notify whose 16 octets were copied from the front to b
pub add_written : (i : ℕ) (s : List ℕ) (q : ℕ) (b x l : List ℕ) → length s ≡ 6 → q ≤ 4095 → 16 ≤ length b
    → x ≡ front_of 0 0 i 16 s q 0
    → l ≡ take (length (take 16 x)) (take 16 x) ++ drop (length (take 16 x)) b
    → record { answer = 0; len = 16; buffer = l } ≡ write_to (add_fields i s q) b
unfolding write_to writer_tests octets_of
add_written i s q b x l h hq hb e f =
    simp (le-ltb 4095 q hq, le-ltb (length b) 16 hb)
    (ap (λ (l : List ℕ). record { answer = 0; len = 16; buffer = l })
    (f ∙ simp e
    (exact_ind 6 (λ (s : List ℕ). take (length (take 16 (front_of 0 0 i 16 s q 0))) (take 16 (front_of 0 0 i 16 s q 0)) ++ drop (length (take 16 (front_of 0 0 i 16 s q 0))) b ≡ octets_of (add_fields i s q) ++ drop 16 b)
    (λ a b c d e f. refl) s h)))

front_length : (c t i n : ℕ) (s : List ℕ) (q x : ℕ) → length s ≡ 6 → length (front_of c t i n s q x) ≡ 18
front_length c t i n s q x h = exact_ind 6 (λ (s : List ℕ). length (front_of c t i n s q x) ≡ 18) (λ a b c d e f. refl) s h

-- the octets of a MOVE: its front, then its context
pub move_octets : (c t i : ℕ) (s : List ℕ) (q : ℕ) (x : List ℕ) → (c ≡ 0 → ⊥) → length s ≡ 6
    → front_of c t i (18 + length x) s q (length x) ++ x ≡ octets_of (move_fields c t i s q x)
unfolding octets_of
move_octets c t i s q x h n =
    exact_ind 6 (λ (s : List ℕ). front_of c t i (18 + length x) s q (length x) ++ x ≡ octets_of (move_fields c t i s q x)) (λ a b c d e f. rw (ne_eqb _ 0 h)) s n

-- a MOVE whose front was copied to b, and then its context from 18 on
pub move_written : (c t i : ℕ) (s : List ℕ) (q : ℕ) (x b y l m : List ℕ) → (c ≡ 0 → ⊥) → length s ≡ 6
    → q ≤ 4095 → t ≤ 1 → length x ≤ 64 → 18 + length x ≤ length b
    → y ≡ front_of c t i (18 + length x) s q (length x)
    → l ≡ take (length y) y ++ drop (length y) b
    → m ≡ take (length x) x ++ drop (length x) (take (length l - 18) (drop 18 l))
    → record { answer = 0; len = 18 + length x; buffer = take 18 l ++ (m ++ drop (length l - 18) (drop 18 l)) } ≡ write_to (move_fields c t i s q x) b
unfolding write_to writer_tests
move_written c t i s q x b y l m hc hs hq ht hx hb ey el em =
    let n : length y ≡ 18 = ap length ey ∙ front_length c t i (18 + length x) s q (length x) hs in
    let D : List ℕ = drop (18 + length x) b in
    let g : take 18 l ++ (m ++ drop (length l - 18) (drop 18 l)) ≡ octets_of (move_fields c t i s q x) ++ D =
    placed 18 y x b l m n el em ∙ sym (append_assoc y x D) ∙ ap (λ (r : List ℕ). r ++ x ++ D) ey ∙ ap (λ (r : List ℕ). r ++ D) (move_octets c t i s q x hc hs) in
    simp (g, ne_eqb c 0 hc, le-ltb 4095 q hq, le-ltb 1 t ht, le-ltb 64 (length x) hx, le-ltb (length b) (18 + length x) hb)

-- a number of two octets has nothing above them
pub high_octet : (n : ℕ) → n < 65536 → n / 256 % 256 ≡ n / 256
high_octet n h = omega arith

pub ruleset of_front = (append_assoc, six_cons, high_octet)
