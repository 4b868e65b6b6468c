-- Laws of a join at one access point's record.
-- Assumes nothing.
use Rattle.std.proofs.Common.{◌≡◌, ℕ, ◌+◌, ◌%◌, ◌^◌, ◌<◌, ◌≤◌, Bool, true, false, cond, not, ◌&&◌, ltb, leb, List, [], ◌∷◌, ◌++◌, map, length, get_or, sym, refl, ap, ◌∙◌, arith, ltb-true, le-ltb, lt-ltb, ne_eqb, le-leb, leb-false}
use Rattle.std.specs.Prelude.{None, Some, is_some}
use borrow.Author.Tests.{lt-leb, not-false}
use lib.ListN.{length-map}
use Rattle.lists.specs.Table.{Test, first_of}
use Rattle.lists.specs.Options.{case_option}
use Rattle.lists.specs.Search.{index_by, placed}
use Rattle.lists.proofs.Tables.{none_pass}
use Rattle.lists.proofs.Choices.{not_both}
use Rattle.sequence.specs.Distance.{newer_of}
use Rattle.structs.specs.declared.Association.{Association}
use Rattle.structs.specs.declared.Move.{Move}
use Rattle.machine.specs.AccessPoint as machine
use Rattle.machine.specs.Associations.{Context, given, association, held_context, associate}
use Rattle.machine.specs.Moves.{Open, counts_after, counted, new_move, notice_of}
use Rattle.machine.specs.Moves as happenings
use Rattle.machine.specs.AccessPoint.{with_associations, with_moves, use_identifier, quietly, another, this, nowhere, origin_of, needs_move, join_tests, joined, join_from}
use Rattle.structs.specs.declared.AccessPoint.{AccessPoint}
use Rattle.record.specs.Lens.{named, bare, get_point, put_point}
use Rattle.structs.specs.Lists.{get_associations, put_associations, get_moves, put_moves}
use Rattle.record.proofs.LensLaws.{put_parts, moves_as_got}
use Rattle.associations.specs.Rows.{is_of}
use Rattle.associations.proofs.Laws.{associate_at, context_at, station_at_lem, sequence_at}
use Rattle.excerpt.specs.declared.Edit.TheVariants.{Place}
use Rattle.excerpt.specs.declared.Excerpt.{Excerpt}
use Rattle.excerpt.specs.Excerpts.{with_edit, put_back, Seen}
use Rattle.excerpt.proofs.Laws.{fits, at_is, moves_is, identifier_is}
use Rattle.structs.specs.declared.Origin.{Origin}
use Rattle.structs.specs.declared.Origin.TheVariants.{Another, This, Nowhere}
use Rattle.joining.specs.declared.Notice.{Notice}
use Rattle.joining.specs.declared.Notice.TheVariants.{Silent}
use Rattle.joining.specs.Join.{sends_by, notice_from, origin_from, join_done, moves_tests, tests_at, moving_from}
use Rattle.structs.specs.declared.Moves.{Moves}
use Rattle.structs.specs.Blanks.{no_association}
use lib.Seq.{length-take-le}

-- the tests, one after the other

module _ (i k q n m : ℕ) (moving : Bool) where
  pub not_newer : i < k → newer_of n q ≡ false → 15 ≡ first_of (tests_at i k q n m moving)
  unfolding tests_at
  not_newer h f = rw (lt-ltb i k h, f)

  pub newer_passes : i < k → newer_of n q ≡ true → first_of (moves_tests m moving) ≡ first_of (tests_at i k q n m moving)
  unfolding tests_at
  newer_passes h f = rw (lt-ltb i k h, f)

  pub table_full : k ≤ i → 16 ≤ k → 16 ≡ first_of (tests_at i k q n m moving)
  unfolding tests_at
  table_full h l = rw (le-ltb i k h, le-leb 16 k l)

  pub table_room : k ≤ i → k < 16 → first_of (moves_tests m moving) ≡ first_of (tests_at i k q n m moving)
  unfolding tests_at
  table_room h l = rw (le-ltb i k h, lt-leb 16 k l)

-- the table afterwards

module _ (s : List ℕ) (n : ℕ) (rs : List Association) where
  pub associated : (i : ℕ) (x : Context) → i ≡ index_by (is_of s) rs → placed i (association s n x) rs ≡ associate (association s n x) rs
  unfolding association
  associated i x e = ap (λ (j : ℕ). placed j (association s n x) rs) e ∙ sym (associate_at (association s n x) rs)

  -- an association numbered anew keeps its context
  pub kept_row : (i : ℕ) (r : Association) → i ≡ index_by (is_of s) rs → i < length rs → r ≡ get_or rs i no_association
      → record { station = r.station; sequence = n; context_len = r.context_len; context = r.context } ≡ association s n (held_context s rs)
  unfolding association
  kept_row i r e h q =
      let k : index_by (is_of s) rs < length rs = omega arith in
      let f : r ≡ get_or rs (index_by (is_of s) rs) no_association = q ∙ ap (λ (j : ℕ). get_or rs j no_association) e in
      rw (context_at s no_association rs, lt-ltb (index_by (is_of s) rs) (length rs) k, f, station_at_lem s no_association rs k)

  -- a new one has none
  pub new_row : (i : ℕ) → i ≡ index_by (is_of s) rs → length rs ≤ i → association s n (given []) ≡ association s n (held_context s rs)
  new_row i e h = rw (context_at s no_association rs, le-ltb (index_by (is_of s) rs) (length rs) (omega arith))

-- the record afterwards

pub bare_last : (xs : List Move) (m : Open) → map bare (map named xs ++ (m ∷ [])) ≡ xs ++ (bare m ∷ [])
unfolding bare named
bare_last [] m = refl
bare_last (x ∷ xs) m = ap (λ (l : List Move). x ∷ l) (bare_last xs m)

-- the excerpt x with the moves ms, the next identifier i, and o moves opened
abbrev pub opening : Excerpt → Moves → ℕ → ℕ → Excerpt
opening x ms i o =
    record { edit = x.edit; at = x.at; count = x.count; row = x.row; moves = ms; next_identifier = i; opened = o; resent = x.resent; answered = x.answered; given_up = x.given_up }

module _ (s : List ℕ) (n : ℕ) (a : AccessPoint) (x : Excerpt) (w : Seen s a x) where
  -- put back, it is the access point p, which has that association, those moves and those numbers
  joined_as : (p : machine.AccessPoint) (y : Context) (r : Association) (ms : Moves) (i o : ℕ) → r ≡ association s n y
      → p.associations ≡ associate (association s n y) (get_associations a.associations)
      → ms ≡ put_moves a.moves (map bare p.moves)
      → i ≡ p.next_identifier → o ≡ p.counts.opened
      → a.resent ≡ p.counts.resent → a.answered ≡ p.counts.answered → a.given_up ≡ p.counts.given_up
      → put_back a (opening (with_edit Place r x) ms i o) ≡ put_point a p
  joined_as p y r ms i o f e em en eo er ew eg =
      put_parts a p (put_associations a.associations (placed x.at r (get_associations a.associations))) ms i o x.resent x.answered x.given_up
      (ap (put_associations a.associations)
      (ap (λ (q : Association). placed x.at q (get_associations a.associations)) f ∙ associated s n (get_associations a.associations) x.at y (at_is s a x w) ∙ sym e))
      em en eo
      (ap (λ (y : Excerpt). y.resent) w.same ∙ er) (ap (λ (y : Excerpt). y.answered) w.same ∙ ew) (ap (λ (y : Excerpt). y.given_up) w.same ∙ eg)

  -- the moves of the excerpt are the record's
  abbrev Kept : Association → Type 0
  Kept r = r ≡ association s n (held_context s (get_associations a.associations))

  pub joined_this : (r : Association) → Kept r
      → put_back a (with_edit Place r x) ≡ put_point a (join_from this 0 0 0 0 0 s n [] (get_point a)).point
  unfolding join_from quietly joined with_associations get_point
  joined_this r f =
      joined_as (join_from this 0 0 0 0 0 s n [] (get_point a)).point (held_context s (get_associations a.associations)) r x.moves x.next_identifier x.opened f refl
      (moves_is s a x w ∙ moves_as_got a (fits s a x w)) (identifier_is s a x w) (ap (λ (y : Excerpt). y.opened) w.same) refl refl refl

  pub joined_nowhere : (c : List ℕ) (r : Association) (i : ℕ) → r ≡ association s n (given c) → i ≡ (x.next_identifier + 1) % 2 ^ 16
      → put_back a (opening (with_edit Place r x) x.moves i x.opened) ≡ put_point a (join_from nowhere 0 0 0 0 0 s n c (get_point a)).point
  unfolding join_from use_identifier joined with_associations get_point
  joined_nowhere c r i f g =
      joined_as (join_from nowhere 0 0 0 0 0 s n c (get_point a)).point (given c) r x.moves i x.opened f refl
      (moves_is s a x w ∙ moves_as_got a (fits s a x w)) (g ∙ ap (λ (j : ℕ). (j + 1) % 2 ^ 16) (identifier_is s a x w)) (ap (λ (y : Excerpt). y.opened) w.same) refl refl refl

  pub joined_another : (old q l : ℕ) (r : Association) (ms : Moves) (i o : ℕ) → Kept r
      → ms ≡ put_moves x.moves (get_moves x.moves ++ (record { station = s; sequence = n; old = old; identifier = x.next_identifier; ticks_left = q; resends_left = l } ∷ []))
      → i ≡ (x.next_identifier + 1) % 2 ^ 16 → o ≡ (x.opened + 1) % 2 ^ 32
      → put_back a (opening (with_edit Place r x) ms i o) ≡ put_point a (join_from (another old) 0 q l 0 0 s n [] (get_point a)).point
  unfolding join_from with_moves use_identifier joined with_associations get_point counts_after counted happenings.opening new_move bare
  joined_another old q l r ms i o f g h k =
      joined_as (join_from (another old) 0 q l 0 0 s n [] (get_point a)).point (held_context s (get_associations a.associations)) r ms i o f refl
      (g
      ∙ ap (λ (y : Excerpt). put_moves y.moves (get_moves y.moves ++ (record { station = s; sequence = n; old = old; identifier = y.next_identifier; ticks_left = q; resends_left = l } ∷ []))) w.same
      ∙ ap (put_moves a.moves) (sym (bare_last (get_moves a.moves) (new_move 0 s n old a.next_identifier q l))))
      (h ∙ ap (λ (j : ℕ). (j + 1) % 2 ^ 16) (identifier_is s a x w)) (k ∙ ap (λ (y : Excerpt). (y.opened + 1) % 2 ^ 32) w.same) refl refl refl

-- the tests of the machine are those at the station's place

moving_is : (x : Origin) → moving_from x ≡ needs_move (origin_from x)
unfolding needs_move
moving_is (Another o) = refl
moving_is This = refl
moving_is Nowhere = refl

by_option : (b : Bool) (q n : ℕ) (f : Bool) (ts : List Test)
    → first_of ((b && not (newer_of n q), 15) ∷ (not b && f, 16) ∷ ts)
    ≡ first_of ((case_option (cond b (Some q) None) false (λ m. not (newer_of n m)), 15) ∷ (not (is_some (cond b (Some q) None)) && f, 16) ∷ ts)
by_option true q n f ts = refl
by_option false q n f ts = refl

pub tests_same : (s : List ℕ) (a : AccessPoint) (x : Excerpt) → Seen s a x → (n : ℕ) (o : Origin)
    → first_of (tests_at x.at x.count x.row.sequence n x.moves.count (moving_from o)) ≡ first_of (join_tests (origin_from o) s n (get_point a))
unfolding tests_at get_point
tests_same s a x w n o =
    let rs = get_associations a.associations in
    let m : length (map named (get_moves a.moves)) ≡ a.moves.count = length-map (get_moves a.moves) named ∙ length-take-le a.moves.count a.moves.items w.moves in
    rw (w.same, m, moving_is o, sequence_at s no_association rs, length-take-le a.associations.count a.associations.items w.rows) (by_option (ltb (index_by (is_of s) rs) a.associations.count) _ n (leb 16 a.associations.count) (moves_tests a.moves.count (needs_move (origin_from o))))

-- a join refused, and a join done

module _ (o : machine.Origin) (k q r b : ℕ) (s : List ℕ) (n : ℕ) (c : List ℕ) (a : AccessPoint) where
  pub join_refused : (x : ℕ) → x ≡ first_of (join_tests o s n (get_point a)) → (x ≡ 0 → ⊥) → record { answer = x; point = a; notice = Silent } ≡ join_done o k q r b s n c a
  unfolding join_done
  join_refused x e h = rw (← e, ne_eqb x 0 h)

  pub join_accepted : (x : ℕ) (p : AccessPoint) (y : Notice) → x ≡ first_of (join_tests o s n (get_point a)) → x ≡ 0
      → p ≡ put_point a (join_from o k q r 0 b s n c (get_point a)).point → y ≡ notice_from o a.next_identifier
      → record { answer = x; point = p; notice = y } ≡ join_done o k q r b s n c a
  unfolding join_done
  join_accepted x p y e h f g = rw (← e, h, f, g)

-- what the notice of a join sends is what the machine's join sends
pub notice_sends : (o : machine.Origin) (k q r b : ℕ) (s : List ℕ) (n : ℕ) (c : List ℕ) (a : AccessPoint)
    → sends_by b k s n (notice_from o a.next_identifier) ≡ (join_from o k q r 0 b s n c (get_point a)).sends
unfolding join_from quietly notice_of new_move get_point
notice_sends (another old) k q r b s n c a = refl
notice_sends this k q r b s n c a = refl
notice_sends nowhere k q r b s n c a = refl

-- the record after a join does not depend on what that origin does not look at

pub point_another : (old k q r b : ℕ) (s : List ℕ) (n : ℕ) (c : List ℕ) (a : AccessPoint)
    → put_point a (join_from (another old) 0 q r 0 0 s n [] (get_point a)).point ≡ put_point a (join_from (another old) k q r 0 b s n c (get_point a)).point
unfolding join_from
point_another old k q r b s n c a = refl

pub point_this : (k q r b : ℕ) (s : List ℕ) (n : ℕ) (c : List ℕ) (a : AccessPoint)
    → put_point a (join_from this 0 0 0 0 0 s n [] (get_point a)).point ≡ put_point a (join_from this k q r 0 b s n c (get_point a)).point
unfolding join_from
point_this k q r b s n c a = refl

pub point_nowhere : (k q r b : ℕ) (s : List ℕ) (n : ℕ) (c : List ℕ) (a : AccessPoint)
    → put_point a (join_from nowhere 0 0 0 0 0 s n c (get_point a)).point ≡ put_point a (join_from nowhere k q r 0 b s n c (get_point a)).point
unfolding join_from
point_nowhere k q r b s n c a = refl

-- where no test passes there is room

and_false_left : (a b : Bool) → a && b ≡ false → b ≡ true → a ≡ false
and_false_left true b e h = not_both h e
and_false_left false b e h = refl

module _ (i k q n m : ℕ) where
  pub place_room : (moving : Bool) → first_of (tests_at i k q n m moving) ≡ 0 → i ≤ k → k ≤ 16 → i < 16
  unfolding tests_at
  place_room moving e h l =
      let p = none_pass (tests_at i k q n m moving) tt (rw e) in
      go (leb 16 k) refl p.1.0
    where
      go : (b : Bool) → leb 16 k ≡ b → not (ltb i k) && b ≡ false → i < 16
      go true f g = let u = ltb-true i k (not-false _ (and_false_left _ true g refl)) in omega arith
      go false f g = omega (arith, leb-false 16 k f)

  pub moves_room : first_of (tests_at i k q n m true) ≡ 0 → m < 8
  unfolding tests_at
  moves_room e =
      let p = none_pass (tests_at i k q n m true) tt (rw e) in
      leb-false 8 m p.1.1.0
