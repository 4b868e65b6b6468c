-- What the rules make of an excerpt, once it is put back into the record a that it is of, for the station s.
-- Assumes nothing.
use Rattle.std.proofs.Common.{◌≡◌, ℕ, ◌+◌, ◌%◌, ◌^◌, ◌<◌, ◌≤◌, Bool, true, false, cond, ◌&&◌, eqb, ltb, List, length, get_or, sym, ap, ◌∙◌, subst, arith, le-ltb, lt-ltb, eq-eqb, ne_eqb}
use Rattle.lists.specs.Places.{without}
use Rattle.lists.specs.Search.{index_by, placed}
use Rattle.sequence.specs.Distance.{newer_of}
use Rattle.structs.specs.declared.Association.{Association}
use Rattle.machine.specs.Stations.{Station}
use Rattle.machine.specs.Associations.{given, association, dissociate_older}
use Rattle.machine.specs.Packets.{message_of}
use Rattle.machine.specs.Moves.{agrees}
use Rattle.machine.specs.AccessPoint.{Action, with_associations, leave_by, receive_by}
use Rattle.structs.specs.declared.AccessPoint.{AccessPoint}
use Rattle.record.specs.Lens.{get_point, put_point}
use Rattle.structs.specs.Lists.{get_associations, put_associations, get_moves, put_moves}
use Rattle.record.proofs.LensLaws.{point_kept, put_associations_lem}
use Rattle.record.proofs.ValidLaws.{context_within}
use Rattle.excerpt.specs.declared.Edit.{Edit}
use Rattle.excerpt.specs.declared.Edit.TheVariants.{Place, Remove}
use Rattle.excerpt.specs.declared.Excerpt.{Excerpt}
use Rattle.excerpt.specs.Excerpts.{with_edit, Allowed, edited, put_back, Seen}
use Rattle.excerpt.proofs.Laws.{fits, at_is, row_is, moves_is, back}
use Rattle.moves.specs.Asked.{asked}
use Rattle.receiving.specs.declared.Reply.TheVariants.{Successful, StaleMove}
use Rattle.receiving.specs.Receive.{empty_reply, notify_reply, answered_by}
use Rattle.receiving.proofs.Rules.{left_none, left_gone, leave_is, older_by, stays_answered, filled_answered, gone_answered, response_is, response_none, response_closes}
use Rattle.structs.specs.declared.Moves.{Moves}
use Rattle.structs.specs.Blanks.{no_association}
use lib.Seq.{length-take-le}

module _ (s : Station) (a : AccessPoint) (x : Excerpt) (q : Seen s a x) where
  pub none_there : x.count ≤ x.at → length (get_associations a.associations) ≤ x.at
  none_there h = omega (arith, (ap (λ (y : Excerpt). y.count) q.same), length-take-le a.associations.count a.associations.items q.rows)

  pub one_there : x.at < x.count → x.at < length (get_associations a.associations)
  one_there h = omega (arith, (ap (λ (y : Excerpt). y.count) q.same), length-take-le a.associations.count a.associations.items q.rows)

  -- whether it can be put back

  pub removed_allowed : (r : Association) (y : Excerpt) → y ≡ with_edit Remove r x → x.at < x.count → Allowed y.edit y.at a.associations.count
  removed_allowed r y e h = subst (λ (z : Excerpt). Allowed z.edit z.at a.associations.count) (sym e) (omega (arith, (ap (λ (y : Excerpt). y.count) q.same)))

  pub placed_allowed : (r : Association) (y : Excerpt) → y ≡ with_edit Place r x → x.at < x.count → Allowed y.edit y.at a.associations.count
  placed_allowed r y e h =
      subst (λ (z : Excerpt). Allowed z.edit z.at a.associations.count) (sym e) (omega (arith, (ap (λ (y : Excerpt). y.count) q.same)), omega (arith, (ap (λ (y : Excerpt). y.count) q.same), q.usable.associations))

  -- the record, put back with no edit, without the station's association, or with r in its place

  pub kept_as : (rs : List Association) → get_associations a.associations ≡ rs → put_back a x ≡ put_point a (with_associations rs (get_point a))
  unfolding with_associations get_point
  kept_as rs e = (back s a x q) ∙ sym (rw (← e) (point_kept a (fits s a x q)))

  edited_as : (e : Edit) (r : Association) (y : Excerpt) (rs : List Association) → y ≡ with_edit e r x
      → edited e x.at r a.associations ≡ put_associations a.associations rs → put_back a y ≡ put_point a (with_associations rs (get_point a))
  edited_as e r y rs f g =
      ap (put_back a) f
      ∙ ap (λ (z : Excerpt). record {
        associations = edited e x.at r a.associations;
        moves = z.moves;
        next_identifier = z.next_identifier;
        opened = z.opened;
        resent = z.resent;
        answered = z.answered;
        given_up = z.given_up;
      }) q.same
      ∙ put_associations_lem a rs (edited e x.at r a.associations) (fits s a x q) g

  pub removed_as : (r : Association) (y : Excerpt) (rs : List Association) → y ≡ with_edit Remove r x → without x.at (get_associations a.associations) ≡ rs
      → put_back a y ≡ put_point a (with_associations rs (get_point a))
  removed_as r y rs f g = edited_as Remove r y rs f (ap (put_associations a.associations) g)

  pub placed_as : (r : Association) (y : Excerpt) (rs : List Association) → y ≡ with_edit Place r x → placed x.at r (get_associations a.associations) ≡ rs
      → put_back a y ≡ put_point a (with_associations rs (get_point a))
  placed_as r y rs f g = edited_as Place r y rs f (ap (put_associations a.associations) g)

  -- leave

  pub leave_none : x.count ≤ x.at → put_back a x ≡ put_point a (leave_by s (get_point a)).point
  leave_none h =
      kept_as _ (left_none s 0 (get_associations a.associations) x.at (at_is s a x q) q.usable.distinct_stations (none_there h)) ∙ leave_is s a

  pub leave_gone : (r : Association) (y : Excerpt) → y ≡ with_edit Remove r x → put_back a y ≡ put_point a (leave_by s (get_point a)).point
  leave_gone r y e =
      removed_as r y _ e (left_gone s 0 (get_associations a.associations) x.at (at_is s a x q) q.usable.distinct_stations) ∙ leave_is s a

  -- the association r is there, and whether its number passes a test

  abbrev Held : Association → Type 0
  Held r = (r ≡ x.row) × (x.at < x.count)

  abbrev hit : (ℕ → Bool) → Bool
  hit t = ltb x.at (length (get_associations a.associations)) && t (get_or (get_associations a.associations) x.at no_association).sequence

  absent : (t : ℕ → Bool) → x.count ≤ x.at → hit t ≡ false
  absent t h = rw (le-ltb x.at (length (get_associations a.associations)) (none_there h))

  present : (t : ℕ → Bool) (b : Bool) (r : Association) → Held r → t r.sequence ≡ b → hit t ≡ b
  present t b r h g = rw (lt-ltb x.at (length (get_associations a.associations)) (one_there h.1), ← (row_is s a x q), ← h.0) g

  -- a number n, newer than the association's or not

  module _ (n : ℕ) where
    abbrev without_older : AccessPoint
    without_older = put_point a (with_associations (dissociate_older s n (get_associations a.associations)) (get_point a))

    older : (b : Bool) → hit (newer_of n) ≡ b → cond b (without x.at (get_associations a.associations)) (get_associations a.associations) ≡ dissociate_older s n (get_associations a.associations)
    older b h = older_by s n (get_associations a.associations) x.at (at_is s a x q) b q.usable.distinct_stations h

    pub older_none : x.count ≤ x.at → put_back a x ≡ without_older
    older_none h = kept_as _ (older false (absent (newer_of n) h))

    pub older_stays : (r : Association) → Held r → newer_of n r.sequence ≡ false → put_back a x ≡ without_older
    older_stays r h g = kept_as _ (older false (present (newer_of n) false r h g))

    pub older_gone : (r : Association) → Held r → newer_of n r.sequence ≡ true → (y : Excerpt) → y ≡ with_edit Remove r x → put_back a y ≡ without_older
    older_gone r h g y e = removed_as r y _ e (older true (present (newer_of n) true r h g))

    -- the answer to a MOVE-notify as the code's enum

    pub reply_none : x.count ≤ x.at → empty_reply ≡ notify_reply s n (get_associations a.associations)
    unfolding notify_reply
    reply_none h = sym (rw (← (at_is s a x q), le-ltb x.at (length (get_associations a.associations)) (none_there h)))

    pub reply_stays : (r : Association) → Held r → newer_of n r.sequence ≡ false → StaleMove ≡ notify_reply s n (get_associations a.associations)
    unfolding notify_reply
    reply_stays r h g = sym (rw (← (at_is s a x q), lt-ltb x.at (length (get_associations a.associations)) (one_there h.1), ← (row_is s a x q), ← h.0, g))

    pub reply_gone : (r : Association) → Held r → newer_of n r.sequence ≡ true → Successful r.context_len r.context ≡ notify_reply s n (get_associations a.associations)
    unfolding notify_reply
    reply_gone r h g = sym (rw (← (at_is s a x q), lt-ltb x.at (length (get_associations a.associations)) (one_there h.1), ← (row_is s a x q), ← h.0, g))

  pub reply_small : (r : Association) → Held r → r.context_len ≤ 64
  reply_small r h = rw (h.0, row_is s a x q) (context_within (get_associations a.associations) x.at no_association q.usable.limits (one_there h.1))

  -- a MOVE-response with number n, status t and context c that closed a move

  module _ (n t : ℕ) (c : List ℕ) where
    abbrev after_answer : AccessPoint
    after_answer = put_point a (with_associations (answered_by t s n c (get_associations a.associations)) (get_point a))

    missed : hit (eqb n) ≡ false → put_back a x ≡ after_answer
    missed h = kept_as _ (stays_answered s n (get_associations a.associations) x.at (at_is s a x q) t c q.usable.distinct_stations h)

    pub answered_none : x.count ≤ x.at → put_back a x ≡ after_answer
    answered_none h = missed (absent (eqb n) h)

    pub answered_other : (r : Association) → Held r → (n ≡ r.sequence → ⊥) → put_back a x ≡ after_answer
    answered_other r h g = missed (present (eqb n) false r h (ne_eqb _ _ g))

    pub answered_filled : (r : Association) → Held r → n ≡ r.sequence → t ≡ 0
        → (k : Association) (y : Excerpt) → k ≡ association r.station r.sequence (given c) → y ≡ with_edit Place k x → put_back a y ≡ after_answer
    answered_filled r h g z k y f e =
        placed_as k y _ e
        (ap (λ (k : Association). placed x.at k (get_associations a.associations)) f
        ∙ filled_answered s n (get_associations a.associations) x.at (at_is s a x q) t c r z q.usable.distinct_stations (present (eqb n) true r h (eq-eqb _ _ g)) (h.0 ∙ row_is s a x q))

    pub answered_gone : (r : Association) → Held r → n ≡ r.sequence → (t ≡ 0 → ⊥) → (y : Excerpt) → y ≡ with_edit Remove r x → put_back a y ≡ after_answer
    answered_gone r h g z y e =
        removed_as r y _ e
        (gone_answered s n (get_associations a.associations) x.at (at_is s a x q) t c z q.usable.distinct_stations (present (eqb n) true r h (eq-eqb _ _ g)))

    -- from the AP `from`, with identifier i: j is the place of the move that it closes

    module _ (from i j : ℕ) (e : j ≡ index_by (agrees from (asked i s n)) (get_moves x.moves)) where
      abbrev after_response : AccessPoint
      after_response = put_point a (receive_by (message_of 2 t c) from (asked i s n) (get_point a)).point

      place_of_move : j ≡ index_by (agrees from (asked i s n)) (get_moves a.moves)
      place_of_move = e ∙ ap (λ (m : Moves). index_by (agrees from (asked i s n)) (get_moves m)) (moves_is s a x q)

      pub closes_none : x.moves.count ≤ j → put_back a x ≡ after_response
      closes_none h =
          (back s a x q)
          ∙ response_none from (asked i s n) a (fits s a x q) (answered_by t s n c (get_associations a.associations)) j place_of_move (omega (arith, ap (λ (m : Moves). m.count) (moves_is s a x q)))
          ∙ ap (λ (k : Action). put_point a k.point) (response_is t c from i s n a)

      -- y is the excerpt with the association answered; its moves become ms, and its count of answered moves w
      pub closes_one : j < x.moves.count → (y : Excerpt) (ms : Moves) (w : ℕ) → put_back a y ≡ after_answer
          → ms ≡ put_moves x.moves (without j (get_moves x.moves)) → w ≡ (x.answered + 1) % 2 ^ 32
          → record {
            associations = edited y.edit y.at y.row a.associations;
            moves = ms;
            next_identifier = y.next_identifier;
            opened = y.opened;
            resent = y.resent;
            answered = w;
            given_up = y.given_up;
          }
          ≡ after_response
      closes_one h y ms w f g k =
          response_closes from (asked i s n) a (fits s a x q) (answered_by t s n c (get_associations a.associations)) j place_of_move (omega (arith, ap (λ (m : Moves). m.count) (moves_is s a x q))) (put_back a y) ms w f
          (g ∙ ap (λ (m : Moves). put_moves m (without j (get_moves m))) (moves_is s a x q)) (k ∙ ap (λ (z : Excerpt). (z.answered + 1) % 2 ^ 32) q.same)
          ∙ ap (λ (k : Action). put_point a k.point) (response_is t c from i s n a)
