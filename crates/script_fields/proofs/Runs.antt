-- The octets of a run of hex digits, two digits to an octet, and put at the front of an array one by one.
-- Assumes nothing.
use Rattle.std.proofs.Common.{◌≡◌, refl, sym, ◌∙◌, ℕ, zero, suc, ◌+◌, ◌*◌, ◌/◌, ◌<◌, ◌≤◌, ◌%◌, ◌&&◌, ltb, eqb, List, [], ◌∷◌, ◌++◌, Bool, true, false, cond, None, Some, is_some, length, get_or, take, drop, set, arith, add-one, drop-cons, append-nil}
use lib.ListN.{drop_of_length-le}
use lib.Seq.{take-suc, length-take-le, set_at, append_snoc}
use Rattle.std.specs.List.{list_all}
use Rattle.lists.specs.Places.{every}
use Rattle.lists.proofs.Choices.{and_left, and_right}
use Rattle.script.specs.Fields.{is_hex, hex_of, octets_in, context_in}

pub every_all : {A : Type 0} (p : A → Bool) (xs : List A) → every p xs ≡ list_all p xs
unfolding every
every_all p [] = refl
every_all p (x ∷ xs) = rw (every_all p xs)

-- one digit of a run
pub hex_at : (f : List ℕ) (i : ℕ) → every is_hex f ≡ true → i < length f → is_hex (get_or f i 0) ≡ true
unfolding every
hex_at [] i e l = absurd (omega arith)
hex_at (x ∷ xs) zero e l = and_left (is_hex x) (every is_hex xs) e
hex_at (x ∷ xs) (suc i) e l = hex_at xs i (and_right (is_hex x) (every is_hex xs) e) (omega arith)

-- the octets of a run: how many, and each of them

pub octets_length : (f : List ℕ) → length (octets_in f) ≡ length f / 2
unfolding octets_in
octets_length [] = refl
octets_length (x ∷ []) = refl
octets_length (x ∷ y ∷ xs) = omega (arith, octets_length xs)

pub octets_at : (f : List ℕ) (i : ℕ) → 2 * i + 1 < length f
    → get_or (octets_in f) i 0 ≡ hex_of (get_or f (2 * i) 0) * 16 + hex_of (get_or f (2 * i + 1) 0)
unfolding octets_in
octets_at [] i l = absurd (omega arith)
octets_at (x ∷ []) i l = absurd (omega arith)
octets_at (x ∷ y ∷ xs) zero l = refl
octets_at (x ∷ y ∷ xs) (suc i) l =
    let e : 2 * suc i ≡ suc (suc (2 * i)) = omega arith in
    let g : 2 * suc i + 1 ≡ suc (suc (2 * i + 1)) = omega arith in
    rw (g, e) (octets_at xs i (omega arith))

-- one more at the front of d
pub front_next : (s d : List ℕ) (i : ℕ) → i < length s → i < length d
    → set (take i s ++ drop i d) i (get_or s i 0) ≡ take (i + 1) s ++ drop (i + 1) d
front_next s d i l k =
    rw (drop-cons d i 0, set_at (take i s) (get_or d i 0) (drop (suc i) d) (get_or s i 0) i (length-take-le i s (omega arith)), add-one, take-suc s i 0)
    (sym (append_snoc (take i s) (get_or s i 0) (drop (suc i) d)))

-- put over all of an array
pub front_all : (s d : List ℕ) → length d ≤ length s → s ++ drop (length s) d ≡ s
front_all s d h = rw (drop_of_length-le d h, append-nil s)

-- something where a test passes
some_where : {A : Type 0} (x : A) (b : Bool) → is_some (cond b (Some x) None) ≡ b
some_where x true = refl
some_where x false = refl

pub context_test : (f : List ℕ) → is_some (context_in f) ≡ ltb 0 (length f) && (eqb (length f % 2) 0 && every is_hex f)
unfolding context_in
context_test f = some_where (octets_in f) _

-- a field that is a context, and one that is none

pub context_some : (f : List ℕ) → is_some (context_in f) ≡ true → context_in f ≡ Some (octets_in f)
unfolding context_in
context_some f e = rw (sym (some_where (octets_in f) _) ∙ e)

pub context_none : (f : List ℕ) → is_some (context_in f) ≡ false → context_in f ≡ None
unfolding context_in
context_none f e = rw (sym (some_where (octets_in f) _) ∙ e)

pub context_hex : (f : List ℕ) → is_some (context_in f) ≡ true → every is_hex f ≡ true
unfolding context_in
context_hex f e = and_right (eqb (length f % 2) 0) _ (and_right (ltb 0 (length f)) _ (sym (some_where (octets_in f) _) ∙ e))
