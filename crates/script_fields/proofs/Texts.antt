-- Texts compared by the slices' `==`, and the event found by its name.
-- Assumes nothing.
use Rattle.std.proofs.Common.{◌≡◌, refl, ℕ, List, [], ◌∷◌, Bool, true, false, not, sym, ◌∙◌, eqb, find}
use Rattle.std.proofs.lemmas.Bool.{not-true, not-false}
use Rattle.std.specs.Cmp.Lexicographic.{pointwise}
use Rattle.machine.specs.Stations.{same}
use Rattle.structs.specs.declared.Kind.{Kind}
use Rattle.script.specs.EventLine.{name_of, named_in}

pub equal_texts : (a b : List ℕ) → pointwise eqb a b ≡ same a b
unfolding same
equal_texts [] [] = refl
equal_texts [] (y ∷ b) = refl
equal_texts (x ∷ a) [] = refl
equal_texts (x ∷ a) (y ∷ b) = rw (equal_texts a b)

pub named_find : (ks : List Kind) (f : List ℕ) → find (λ k. pointwise eqb f (name_of k)) ks ≡ named_in ks f
unfolding named_in
named_find [] f = refl
named_find (k ∷ ks) f = rw (equal_texts f (name_of k), named_find ks f)

-- what a test says for the inequality of a and b, which is the text n

pub differ : (a b n : List ℕ) (r : Bool) → r ≡ not (pointwise eqb a b) → b ≡ n → r ≡ true → same a n ≡ false
differ a b n r e f h = sym (equal_texts a n) ∙ not-true _ (rw f at (sym e ∙ h))

pub agree : (a b n : List ℕ) (r : Bool) → r ≡ not (pointwise eqb a b) → b ≡ n → r ≡ false → same a n ≡ true
agree a b n r e f h = sym (equal_texts a n) ∙ not-false _ (rw f at (sym e ∙ h))
