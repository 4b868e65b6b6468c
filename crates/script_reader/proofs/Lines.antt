-- The first three lines of a script, by the pieces between its octets 0A.
-- Assumes nothing.
use Rattle.std.proofs.Common.{◌≡◌, refl, sym, ap, ◌∙◌, ℕ, suc, ◌+◌, ◌<◌, ◌≤◌, List, [], ◌∷◌, ◌⊎◌, inl, inr, Bool, true, false, cond, ◌&&◌, Option, None, eqb, length, get_or, drop, arith, lt-ltb, le-ltb, le-leb}
use borrow.Author.Tests.{lt-leb}
use Rattle.std.specs.List.{slice_split, onto_first}
use Rattle.lists.proofs.Choices.{not_both, and_false}
use Rattle.machine.specs.Stations.{same}
use Rattle.script.specs.Text.{on_first, split, lines, next_from}
use Rattle.script.specs.SetUpLines.{set_up_names, event_names, Values, values_in, set_up_in}
use Rattle.script_reader.specs.Heard.{past_line, three_lines}

-- the pieces of a text
abbrev pub pieces : List ℕ → List (List ℕ)
pieces s = slice_split (λ x. eqb x 10) s

-- there is one at least
not_none : (s : List ℕ) → pieces s ≡ [] → ⊥
not_none [] e = omega (arith, ap length e)
not_none (x ∷ s) e = go (eqb x 10) (pieces s) e
  where
    go : (b : Bool) (ps : List (List ℕ)) → cond b ([] ∷ ps) (onto_first x ps) ≡ [] → ⊥
    go true ps e = omega (arith, ap length e)
    go false [] e = omega (arith, ap length e)
    go false (p ∷ ps) e = omega (arith, ap length e)

-- The lines are the pieces, but for an empty last one

abbrev last_piece : List ℕ → List (List ℕ)
last_piece [] = []
last_piece (x ∷ p) = (x ∷ p) ∷ []

abbrev trim : List (List ℕ) → List (List ℕ)
trim [] = []
trim (p ∷ []) = last_piece p
trim (p ∷ q ∷ ps) = p ∷ trim (q ∷ ps)

lines_trim : (s : List ℕ) → lines s ≡ trim (pieces s)
unfolding split on_first
lines_trim [] = refl
lines_trim (x ∷ s) = go (eqb x 10) (pieces s) (not_none s) (lines_trim s)
  where
    go : (b : Bool) (ps : List (List ℕ)) → (ps ≡ [] → ⊥) → split 10 [] s ≡ trim ps → cond b ([] ∷ split 10 [] s) (on_first x (split 10 [] s)) ≡ trim (cond b ([] ∷ ps) (onto_first x ps))
    go b [] n e = absurd (n refl)
    go true (p ∷ ps) n e = rw e
    go false ([] ∷ []) n e = rw e
    go false ((y ∷ p) ∷ []) n e = rw e
    go false (p ∷ q ∷ ps) n e = rw e

-- The set-up

trim_short : (ps : List (List ℕ)) → length (trim ps) ≤ length ps
trim_short [] = omega arith
trim_short ([] ∷ []) = omega arith
trim_short ((x ∷ p) ∷ []) = omega arith
trim_short (p ∷ q ∷ ps) = omega (arith, trim_short (q ∷ ps))

few : (ls : List (List ℕ)) → length ls < 3 → set_up_in ls ≡ None
unfolding set_up_in
few ls h = rw (lt-leb 3 (length ls) h)

module _ (s : List ℕ) where
  pub few_pieces : (ps : List (List ℕ)) → pieces s ≡ ps → length ps < 3 → set_up_in (lines s) ≡ None
  few_pieces ps e h = few (lines s) (omega (arith, ap length (lines_trim s ∙ ap trim e), trim_short ps))

  module _ (a b z : List ℕ) (ps : List (List ℕ)) (e : pieces s ≡ a ∷ b ∷ z ∷ ps) where
    -- the third line, if it is one
    third : (lines s ≡ a ∷ b ∷ []) ⊎ ((qs : List (List ℕ)) × (lines s ≡ a ∷ b ∷ z ∷ qs))
    third = go z ps (lines_trim s ∙ ap trim e)
      where
        go : (z : List ℕ) (ps : List (List ℕ)) → lines s ≡ trim (a ∷ b ∷ z ∷ ps) → (lines s ≡ a ∷ b ∷ []) ⊎ ((qs : List (List ℕ)) × (lines s ≡ a ∷ b ∷ z ∷ qs))
        go [] [] q = inl q
        go (x ∷ z) [] q = inr ([], q)
        go z (p ∷ ps) q = inr (trim (p ∷ ps), q)

    by_third : (o : Option Values) → (lines s ≡ a ∷ b ∷ [] → o ≡ None) → cond (same a set_up_names && same z event_names) (values_in b) None ≡ o → set_up_in (lines s) ≡ o
    unfolding set_up_in
    by_third o f g = elim third [ inl q ↦ few (lines s) (omega (arith, ap length q)) ∙ sym (f q) | inr q ↦ rw (q.1, le-leb 3 (length (a ∷ b ∷ z ∷ q.0)) (omega arith)) g ]

    pub no_names : same a set_up_names ≡ false → set_up_in (lines s) ≡ None
    no_names p = by_third None (λ _. refl) (rw p)

    pub no_event_names : same z event_names ≡ false → set_up_in (lines s) ≡ None
    no_event_names p = by_third None (λ _. refl) (rw (p, and_false))

    pub by_values : same a set_up_names ≡ true → same z event_names ≡ true → set_up_in (lines s) ≡ values_in b
    unfolding set_up_in
    by_values p q = go z ps (lines_trim s ∙ ap trim e) q
      where
        all : (qs : List (List ℕ)) (z : List ℕ) → same z event_names ≡ true → set_up_in (a ∷ b ∷ z ∷ qs) ≡ values_in b
        all qs z q = rw (le-leb 3 (length (a ∷ b ∷ z ∷ qs)) (omega arith), p, q)

        go : (z : List ℕ) (ps : List (List ℕ)) → lines s ≡ trim (a ∷ b ∷ z ∷ ps) → same z event_names ≡ true → set_up_in (lines s) ≡ values_in b
        go [] [] r q = not_both q (unfold same event_names in refl)
        go (x ∷ z) [] r q = rw r (all [] (x ∷ z) q)
        go z (y ∷ ys) r q = rw r (all (trim (y ∷ ys)) z q)

-- Where the lines after them begin

-- a first piece: all, or up to an octet 0A
first_piece : (s a : List ℕ) (ps : List (List ℕ)) → pieces s ≡ a ∷ ps
    → ((ps ≡ []) × (length s ≡ length a) × (past_line s ≡ [])) ⊎ ((pieces (past_line s) ≡ ps) × (length s ≡ length a + 1 + length (past_line s)))
unfolding past_line
first_piece [] a ps e = inl (sym (ap (drop 1) e), ap (λ x. length (get_or x 0 [])) e, refl)
first_piece (x ∷ s) a ps e = go (eqb x 10) (pieces s) (not_none s) refl (first_piece s) e
  where
    go : (b : Bool) (qs : List (List ℕ)) → (qs ≡ [] → ⊥) → pieces s ≡ qs
        → ((a : List ℕ) (ps : List (List ℕ)) → qs ≡ a ∷ ps → ((ps ≡ []) × (length s ≡ length a) × (past_line s ≡ [])) ⊎ ((pieces (past_line s) ≡ ps) × (length s ≡ length a + 1 + length (past_line s))))
        → cond b ([] ∷ qs) (onto_first x qs) ≡ a ∷ ps
        → ((ps ≡ []) × (suc (length s) ≡ length a) × (cond b s (past_line s) ≡ [])) ⊎ ((pieces (cond b s (past_line s)) ≡ ps) × (suc (length s) ≡ length a + 1 + length (cond b s (past_line s))))
    go b [] n q f e = absurd (n refl)
    go true (p ∷ qs) n q f e =
        let k : length a ≡ 0 = ap (λ x. length (get_or x 0 [])) (sym e) in
        inr (q ∙ ap (drop 1) e, omega (arith, k))
    go false (p ∷ qs) n q f e =
        let k : length a ≡ suc (length p) = ap (λ x. length (get_or x 0 [])) (sym e) in
        let r : qs ≡ ps = ap (drop 1) e in
        elim (f p qs refl) [ inl u ↦ inl (sym r ∙ u.0, omega (arith, k, u.1), u.2) | inr u ↦ inr (u.0 ∙ r, omega (arith, k, u.1)) ]

-- the octets of the first three lines
pub lines_end : (s a b z : List ℕ) (ps : List (List ℕ)) → pieces s ≡ a ∷ b ∷ z ∷ ps
    → (length a + length b + length z + 2 ≤ length s) × (three_lines s ≡ next_from (length a + length b + length z + 2) s)
unfolding three_lines next_from past_line
lines_end s a b z ps e =
    elim (first_piece s a (b ∷ z ∷ ps) e) [
      | inl p ↦ absurd (omega (arith, ap length p.0))
      | inr p ↦ elim (first_piece (past_line s) b (z ∷ ps) p.0) [
        | inl q ↦ absurd (omega (arith, ap length q.0))
        | inr q ↦ elim (first_piece (past_line (past_line s)) z ps q.0) [
          | inl r ↦
              let n : length s ≡ length a + length b + length z + 2 = omega (arith, p.1, q.1, r.1) in
              let k : length s ≤ length a + length b + length z + 2 = omega arith in
              (omega arith, rw (le-ltb _ _ k, r.2) (omega (arith, n)))
          | inr r ↦
              let k : length a + length b + length z + 2 < length s = omega (arith, p.1, q.1, r.1) in
              (omega arith, rw (lt-ltb _ _ k) (omega (arith, p.1, q.1, r.1)))
        ]
      ]
    ]
