-- The set-up of a line of values: bad at the first thing that is, and else the three values.
-- Assumes nothing.
use Rattle.std.proofs.Common.{◌≡◌, ℕ, ◌≤◌, ◌<◌, List, [], ◌∷◌, Option, None, Some, length, lt-ltb, le-ltb, ne_eqb}
use Rattle.script.specs.Text.{fields}
use Rattle.script.specs.Fields.{number_in}
use Rattle.script.specs.SetUpLines.{Values, limited, value_fields, values_in}
use Rattle.script_reader.proofs.Pieces.{same_either}
use Rattle.script_reader.specs.declared.Values as line
use Rattle.script_reader.specs.Heard.{values_from}

-- none
pub no_values : (o : Option Values) (r : Option line.Values) → r ≡ None → o ≡ None → values_from r ≡ o
no_values o r e f = rw (e, f)

module _ (l : List ℕ) where
  pub long : 255 < length l → values_in l ≡ None
  unfolding values_in
  long h = rw (lt-ltb 255 (length l) h)

  by_fields : value_fields (fields l) ≡ None → values_in l ≡ None
  unfolding values_in
  by_fields e = rw e (same_either _)

  pub other : (ps : List (List ℕ)) → fields l ≡ ps → (length ps ≡ 3 → ⊥) → values_in l ≡ None
  unfolding value_fields
  other ps e n = by_fields (rw (e, ne_eqb (length ps) 3 n))

  module _ (a : List ℕ) where
    pub no_first : (ps : List (List ℕ)) → fields l ≡ a ∷ ps → number_in a ≡ None → values_in l ≡ None
    unfolding value_fields
    no_first ps e p = by_fields (rw (e, p) (same_either _))

    module _ (n : ℕ) (q : number_in a ≡ Some n) (b : List ℕ) where
      pub no_second : (ps : List (List ℕ)) → fields l ≡ a ∷ b ∷ ps → number_in b ≡ None → values_in l ≡ None
      unfolding value_fields
      no_second ps e p = by_fields (rw (e, q, p) (same_either _))

      module _ (t : ℕ) (u : number_in b ≡ Some t) (z : List ℕ) where
        pub no_third : (ps : List (List ℕ)) → fields l ≡ a ∷ b ∷ z ∷ ps → number_in z ≡ None → values_in l ≡ None
        unfolding value_fields
        no_third ps e p = by_fields (rw (e, q, u, p) (same_either _))

        pub all_values : (r : ℕ) → length l ≤ 255 → fields l ≡ a ∷ b ∷ z ∷ [] → number_in z ≡ Some r → values_in l ≡ limited n t r
        unfolding values_in value_fields
        all_values r h e p = rw (le-ltb 255 (length l) h, e, q, u, p)
