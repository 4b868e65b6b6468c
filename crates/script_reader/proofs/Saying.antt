-- What a line says: nothing where it is too long or has not six fields, and else what its fields say.
-- Assumes nothing.
use Rattle.std.proofs.Common.{◌≡◌, refl, ◌∙◌, ℕ, zero, suc, ◌≤◌, ◌<◌, List, [], ◌∷◌, Bool, true, false, cond, Option, None, Some, eqb, length, get_or, ltb, arith, lt-ltb, le-ltb, ne_eqb}
use Rattle.lists.specs.Options.{case_option}
use Rattle.structs.specs.declared.Kind.{Kind}
use Rattle.script.specs.Text.{on_first, split, fields}
use Rattle.script.specs.EventLine.{kind_in, said_with, said_fields, said_of}
use Rattle.script_reader.proofs.Pieces.{same_either}
use Rattle.script_reader.specs.declared.Heard as code
use Rattle.script_reader.specs.Heard.{heard_from, heard_in, context_to}

-- an unreadable line
pub nothing_said : (l b : List ℕ) (r : Option code.Heard) → r ≡ None → said_of l ≡ None → (heard_from r ≡ heard_in l) × (b ≡ context_to l b)
unfolding heard_in context_to
nothing_said l b r e f = rw (e, f) (refl, refl)

module _ (l : List ℕ) where
  pub long : 255 < length l → said_of l ≡ None
  unfolding said_of
  long h = rw (lt-ltb 255 (length l) h)

  pub other : (ps : List (List ℕ)) → fields l ≡ ps → (length ps ≡ 6 → ⊥) → said_of l ≡ None
  unfolding said_of said_fields
  other ps e n = rw (e, ne_eqb (length ps) 6 n) (same_either (ltb 255 (length l)))

  module _ (f at s n o c : List ℕ) (h : length l ≤ 255) (e : fields l ≡ f ∷ at ∷ s ∷ n ∷ o ∷ c ∷ []) where
    six : said_of l ≡ case_option (kind_in f) None (λ k. said_with k at s n o c)
    unfolding said_of said_fields
    six = rw (le-ltb 255 (length l) h, e)

    pub no_kind : kind_in f ≡ None → said_of l ≡ None
    no_kind p = six ∙ rw p

    pub by_kind : (k : Kind) → kind_in f ≡ Some k → said_of l ≡ said_with k at s n o c
    by_kind k p = six ∙ rw p

-- a field is no longer than its line
field_short : (l : List ℕ) (k : ℕ) → length (get_or (fields l) k []) ≤ length l
unfolding split
field_short [] zero = omega arith
field_short [] (suc k) = omega arith
field_short (x ∷ l) k = go (eqb x 32) (fields l) (field_short l) k
  where
    go : (b : Bool) (ps : List (List ℕ)) → ((k : ℕ) → length (get_or ps k []) ≤ length l) → (k : ℕ) → length (get_or (cond b ([] ∷ ps) (on_first x ps)) k []) ≤ suc (length l)
    go true ps h zero = omega arith
    go true ps h (suc k) = omega (arith, h k)
    go false [] h zero = unfold on_first in omega arith
    go false [] h (suc k) = unfold on_first in omega arith
    go false (p ∷ ps) h zero = unfold on_first in omega (arith, h 0)
    go false (p ∷ ps) h (suc k) = unfold on_first in omega (arith, h (suc k))

pub last_short : (l f at s n o c : List ℕ) → fields l ≡ f ∷ at ∷ s ∷ n ∷ o ∷ c ∷ [] → length c ≤ length l
last_short l f at s n o c e = rw e at (field_short l 5)
