-- The place of the first octet c from another place on.
-- Assumes nothing.
use Rattle.std.proofs.Common.{◌≡◌, ◌∙◌, ℕ, ◌+◌, ◌<◌, ◌≤◌, List, length, get_or, arith, add-zero, add-one, drop-cons, eq-eqb, ne_eqb}
use lib.ListN.{drop_of_length-le}
use Rattle.script.specs.Text.{place_from}

pub place_past : (c at : ℕ) (s : List ℕ) → length s ≤ at → place_from c at s ≡ at
unfolding place_from
place_past c at s h = rw (drop_of_length-le s h, add-zero)

-- the search at i: it is there, or it goes on

module _ (c at i : ℕ) (s : List ℕ) (e : place_from c at s ≡ place_from c i s) (h : i < length s) where
  pub place_hit : get_or s i 0 ≡ c → place_from c at s ≡ i
  unfolding place_from
  place_hit t = e ∙ rw (drop-cons s i 0, eq-eqb (get_or s i 0) c t) (add-zero i)

  pub place_miss : (get_or s i 0 ≡ c → ⊥) → place_from c at s ≡ place_from c (i + 1) s
  unfolding place_from
  place_miss t = e ∙ rw (add-one i, drop-cons s i 0, ne_eqb (get_or s i 0) c t) (omega arith)
