-- A text cut at an octet: its pieces one by one, as the slices' `split` gives them.
-- Assumes nothing.
use Rattle.std.proofs.Common.{◌≡◌, refl, sym, ap, subst, ◌∙◌, ℕ, List, [], ◌∷◌, ◌++◌, append_assoc, append-nil, Bool, true, false, cond, is_some, Option, None, Some, eqb}
use Rattle.std.specs.Fn.{CalledAt}
use Rattle.std.specs.List.{slice_split, onto_first}
use Rattle.std.specs.Iterator.{AlwaysYields}
use Rattle.std.specs.Slice.Iter.{split_steps, split_rest, split_done, split_callee}
use Rattle.std.proofs.lemmas.Iterator.{YieldsList}
use Rattle.std.proofs.lemmas.Iterator.Splits.{YieldsList-from_slice_split}
use Rattle.lists.proofs.Choices.{not_both}
use denote.Ref.{Bor}
use denote.Param.Members.{Mut}
use Rattle.script.specs.Text.{on_first, split, fields}

-- a test that does not matter
pub same_either : {A : Type 0} {x : A} (b : Bool) → cond b x x ≡ x
same_either true = refl
same_either false = refl

-- xs were taken of all, and s gives the rest
pub record Taken {S A B : Type 0} (steps : S → Option A → S → Type 0) (v : A → B) (s : S) (all xs : List B) : Type 0 where
  pub rest : List B
  pub all_is : all ≡ xs ++ rest
  pub more : YieldsList steps v s rest

module _ {S A B : Type 0} {steps : S → Option A → S → Type 0} {v : A → B} {s t : S} {all xs : List B} where
  -- one more
  pub take_next : {r : Option A} {x : A} → Taken steps v s all xs → r ≡ Some x → steps s r t → Taken steps v t all (xs ++ (v x ∷ []))
  take_next {r = r} {x = x} y e h = go y.rest y.all_is y.more.runs (subst (λ (o : Option A). steps s o t) e h)
    where
      go : (ys : List B) → all ≡ xs ++ ys → AlwaysYields steps v s ys → steps s (Some x) t → Taken steps v t all (xs ++ (v x ∷ []))
      go [] q a k = absurd (a x t k)
      go (z ∷ zs) q a k =
          let p = a.1 x t k in
          record { rest = zs; all_is = q ∙ ap (λ w. xs ++ (w ∷ zs)) (sym p.0) ∙ sym (append_assoc xs (v x ∷ []) zs); more = record { runs = p.1 } }

  -- and no more
  pub take_none : {r : Option A} → Taken steps v s all xs → r ≡ None → steps s r t → all ≡ xs
  take_none {r = r} y e h = go y.rest y.all_is y.more.runs (subst (λ (o : Option A). steps s o t) e h)
    where
      go : (ys : List B) → all ≡ xs ++ ys → AlwaysYields steps v s ys → steps s None t → all ≡ xs
      go [] q a k = q ∙ append-nil xs
      go (z ∷ zs) q a k = absurd (a.0 t k)

  -- the same, of a test whether there is one

  pub take_some : {r : Option A} → Taken steps v s all xs → is_some r ≡ true → steps s r t → (x : A) × Taken steps v t all (xs ++ (v x ∷ []))
  take_some {r = None} y e h = not_both e refl
  take_some {r = Some x} y e h = (x, take_next y refl h)

  pub take_all : {r : Option A} → Taken steps v s all xs → is_some r ≡ false → steps s r t → all ≡ xs
  take_all {r = None} y e h = take_none y refl h
  take_all {r = Some x} y e h = not_both refl e

same_first : (x : ℕ) (ps : List (List ℕ)) → on_first x ps ≡ onto_first x ps
unfolding on_first
same_first x [] = refl
same_first x (p ∷ ps) = refl

-- the fields of a line are its pieces
fields_split : (l : List ℕ) → fields l ≡ slice_split (λ x. eqb x 32) l
unfolding split
fields_split [] = refl
fields_split (x ∷ l) = rw (fields_split l, same_first x)

module _ {F : Type 0} {s : _} (g : Mut F (Bor ℕ × Unit {0}) Bool) {f : F} (xs : List ℕ) (r : split_rest s ≡ xs) (d : split_done s ≡ false) (c : split_callee s ≡ f) where
  -- a line, before its first field is taken
  pub of_line : ((x : ℕ) (b : Bool) (q : F) → CalledAt g f x b q → (q ≡ f) × (b ≡ eqb x 32)) → Taken (split_steps g) (λ x. x.now) s (fields xs) []
  of_line k = record { rest = slice_split (λ x. eqb x 32) xs; all_is = fields_split xs; more = YieldsList-from_slice_split g (λ x. eqb x 32) xs r d c k }

  -- a text, before its first line is
  pub of_text : ((x : ℕ) (b : Bool) (q : F) → CalledAt g f x b q → (q ≡ f) × (b ≡ eqb x 10)) → Taken (split_steps g) (λ x. x.now) s (slice_split (λ x. eqb x 10) xs) []
  of_text k = record { rest = slice_split (λ x. eqb x 10) xs; all_is = refl; more = YieldsList-from_slice_split g (λ x. eqb x 10) xs r d c k }
