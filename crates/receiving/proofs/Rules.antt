-- The machine's rules for leaving and for a packet received, by the place of the station's association.
-- Assumes nothing.
use Rattle.std.proofs.Common.{◌≡◌, ℕ, zero, suc, ◌+◌, ◌%◌, ◌^◌, ◌<◌, ◌≤◌, Bool, true, false, cond, ◌&&◌, eqb, ltb, List, [], ◌∷◌, length, get_or, sym, refl, ap, ◌∙◌, arith, le-ltb, lt-ltb}
use Rattle.std.specs.Prelude.{Some}
use Rattle.lists.specs.Places.{without}
use Rattle.lists.specs.Search.{index_by, placed}
use Rattle.lists.proofs.Search.{without_past}
use Rattle.lists.proofs.Choices.{by_option}
use Rattle.sequence.specs.Distance.{newer_of}
use Rattle.reader.specs.Read.{Reading}
use Rattle.structs.specs.declared.Association.{Association}
use Rattle.machine.specs.Associations.{given, association, context_octets, dissociate, dissociate_older, dissociate_exactly, fill}
use Rattle.machine.specs.Packets.{Packet, message_of, packet_of}
use Rattle.machine.specs.Moves.{agrees, earliest, answering, counts_after, counted}
use Rattle.machine.specs.AccessPoint as machine
use Rattle.machine.specs.AccessPoint.{Action, with_associations, with_moves, quietly, leave_by, answer_to, answering_with, receive_add, receive_notify, receive_response, receive_by, receive}
use Rattle.machine.specs.Valid.{distinct}
use Rattle.structs.specs.declared.AccessPoint.{AccessPoint}
use Rattle.record.specs.Lens.{get_point, put_point}
use Rattle.structs.specs.Lists.{get_associations, put_associations, get_moves, put_moves}
use Rattle.record.proofs.LensLaws.{Fits, put_parts, point_kept}
use Rattle.associations.specs.Rows.{is_of}
use Rattle.associations.proofs.Laws.{sequence_at, context_at, dissociate_at, older_at, exactly_at, fill_at}
use Rattle.moves.specs.Asked.{asked}
use Rattle.moves.proofs.Laws.{asked_by, earliest_asked, close_asked, earliest_at, close_at}
use Rattle.receiving.specs.declared.Reply.{Reply}
use Rattle.receiving.specs.Receive.{message_in, replies_of, result_of, handled_by, notify_reply, answered_by}
use Rattle.structs.specs.declared.Moves.{Moves}
use Rattle.structs.specs.Blanks.{no_association, no_move}
use lib.Seq.{length-take-le}

-- one station's association in the list rs: at place i, which is the length where there is none

module _ (s : List ℕ) (n : ℕ) (rs : List Association) (i : ℕ) (e : i ≡ index_by (is_of s) rs) where
  -- it is there and its number passes the test t
  abbrev hit : (ℕ → Bool) → Bool
  hit t = ltb i (length rs) && t (get_or rs i no_association).sequence

  pub left_none : distinct rs ≡ true → length rs ≤ i → rs ≡ dissociate s rs
  left_none d h = sym (dissociate_at s rs d ∙ without_past (index_by (is_of s) rs) rs (omega arith))

  pub left_gone : distinct rs ≡ true → without i rs ≡ dissociate s rs
  left_gone d = sym (dissociate_at s rs d ∙ ap (λ (j : ℕ). without j rs) (sym e))

  pub older_by : (b : Bool) → distinct rs ≡ true → hit (newer_of n) ≡ b → cond b (without i rs) rs ≡ dissociate_older s n rs
  older_by b d h = sym (older_at s n no_association rs d ∙ rw (← e, h))

  pub stays_answered : (t : ℕ) (c : List ℕ) → distinct rs ≡ true → hit (eqb n) ≡ false → rs ≡ answered_by t s n c rs
  unfolding answered_by
  stays_answered zero c d h = sym (fill_at s n c no_association rs d ∙ rw (← e, h))
  stays_answered (suc t) c d h = sym (exactly_at s n no_association rs d ∙ rw (← e, h))

  pub filled_answered : (t : ℕ) (c : List ℕ) (r : Association) → t ≡ 0 → distinct rs ≡ true → hit (eqb n) ≡ true → r ≡ get_or rs i no_association
      → placed i (association r.station r.sequence (given c)) rs ≡ answered_by t s n c rs
  unfolding answered_by
  filled_answered zero c r z d h f = sym (fill_at s n c no_association rs d ∙ rw (← e, h, ← f))
  filled_answered (suc t) c r z d h f = absurd (omega arith)

  pub gone_answered : (t : ℕ) (c : List ℕ) → (t ≡ 0 → ⊥) → distinct rs ≡ true → hit (eqb n) ≡ true → without i rs ≡ answered_by t s n c rs
  unfolding answered_by
  gone_answered zero c z d h = absurd (z refl)
  gone_answered (suc t) c z d h = sym (exactly_at s n no_association rs d ∙ rw (← e, h))

-- leaving is a change of the associations
pub leave_is : (s : List ℕ) (a : AccessPoint)
    → put_point a (with_associations (dissociate s (get_associations a.associations)) (get_point a)) ≡ put_point a (leave_by s (get_point a)).point
unfolding leave_by quietly get_point
leave_is s a = refl

-- MOVE-notify: the association goes as at an ADD-notify, and the answer is sent
module _ (from : ℕ) (p : Packet) (a : AccessPoint) (d : distinct (get_associations a.associations) ≡ true) where
  pub notify_is : record {
    point = put_point a (with_associations (dissociate_older p.station p.sequence (get_associations a.associations)) (get_point a));
    sends = answer_to from p (message_in (notify_reply p.station p.sequence (get_associations a.associations))) ∷ [];
  }
      ≡ result_of a (receive_notify from p (get_point a))
  unfolding receive_notify notify_reply context_octets message_of get_point with_associations answering_with
  notify_is = go (ltb i (length rs)) (newer_of p.sequence r.sequence) refl refl
    where
      rs : List Association
      rs = get_associations a.associations

      i : ℕ
      i = index_by (is_of p.station) rs

      r : Association
      r = get_or rs i no_association

      go : (b c : Bool) → ltb i (length rs) ≡ b → newer_of p.sequence r.sequence ≡ c
          → record {
            point = put_point a (with_associations (dissociate_older p.station p.sequence rs) (get_point a));
            sends = answer_to from p (message_in (notify_reply p.station p.sequence rs)) ∷ [];
          }
          ≡ result_of a (receive_notify from p (get_point a))
      go false c h k = rw (sequence_at p.station no_association rs, older_at p.station p.sequence no_association rs d, h)
      go true false h k = rw (sequence_at p.station no_association rs, older_at p.station p.sequence no_association rs d, h, k)
      go true true h k =
          rw (sequence_at p.station no_association rs, context_at p.station no_association rs, dissociate_at p.station rs d, older_at p.station p.sequence no_association rs d, h, k)

-- MOVE-response

pub response_is : (t : ℕ) (c : List ℕ) (from i : ℕ) (s : List ℕ) (n : ℕ) (a : AccessPoint)
    → receive_response from (asked i s n) (answered_by t s n c (get_associations a.associations)) (get_point a) ≡ receive_by (message_of 2 t c) from (asked i s n) (get_point a)
unfolding receive_by message_of answered_by get_point
response_is zero c from i s n a = refl
response_is (suc t) c from i s n a = refl

module _ (from : ℕ) (p : Packet) (a : AccessPoint) (z : Fits a) (rs : List Association) (j : ℕ) (e : j ≡ index_by (agrees from p) (get_moves a.moves)) where
  pub response_none : a.moves.count ≤ j → a ≡ put_point a (receive_response from p rs (get_point a)).point
  unfolding receive_response quietly get_point
  response_none h =
      sym
      (rw (earliest_at from p (get_moves a.moves) no_move, ← e, le-ltb j (length (get_moves a.moves)) (omega (arith, length-take-le a.moves.count a.moves.items z.moves))) (point_kept a z))

  closes : j < a.moves.count → (ms : Moves) (w : ℕ) → ms ≡ put_moves a.moves (without j (get_moves a.moves)) → w ≡ (a.answered + 1) % 2 ^ 32
      → record { associations = put_associations a.associations rs; moves = ms; next_identifier = a.next_identifier; opened = a.opened; resent = a.resent; answered = w; given_up = a.given_up }
      ≡ put_point a (receive_response from p rs (get_point a)).point
  unfolding receive_response with_moves with_associations answering counts_after counted get_point
  closes h ms w g k =
      rw (earliest_at from p (get_moves a.moves) no_move, ← e, lt-ltb j (length (get_moves a.moves)) (omega (arith, length-take-le a.moves.count a.moves.items z.moves)))
      (put_parts a _ (put_associations a.associations rs) ms a.next_identifier a.opened a.resent w a.given_up refl
      (g ∙ ap (put_moves a.moves) (sym (close_at from p (get_moves a.moves) ∙ ap (λ (x : ℕ). without x (get_moves a.moves)) (sym e)))) refl refl refl k refl)

  -- b is the record with the associations rs
  pub response_closes : j < a.moves.count → (b : AccessPoint) (ms : Moves) (w : ℕ) → b ≡ put_point a (with_associations rs (get_point a)) → ms ≡ put_moves a.moves (without j (get_moves a.moves))
      → w ≡ (a.answered + 1) % 2 ^ 32
      → record { associations = b.associations; moves = ms; next_identifier = b.next_identifier; opened = b.opened; resent = b.resent; answered = w; given_up = b.given_up }
      ≡ put_point a (receive_response from p rs (get_point a)).point
  unfolding put_point with_associations get_point
  response_closes h b ms w f g k =
      ap (λ (d : AccessPoint). record { associations = d.associations; moves = ms; next_identifier = d.next_identifier; opened = d.opened; resent = d.resent; answered = w; given_up = d.given_up }) f
      ∙ closes h ms w g k

-- a MOVE-response sends nothing, and only identifier, station and sequence number of its packet are looked at
response_same : (from : ℕ) (p : Packet) (rs : List Association) (a : machine.AccessPoint) → receive_response from (asked_by p) rs a ≡ receive_response from p rs a
unfolding receive_response
response_same from p rs a = sym (rw (earliest_asked from p a.moves, close_asked from p a.moves))

response_silent : (from : ℕ) (p : Packet) (rs : List Association) (a : machine.AccessPoint) → (receive_response from p rs a).sends ≡ []
unfolding receive_response quietly
response_silent from p rs a = by_option (λ (x : Action). x.sends ≡ []) (earliest from p a.moves) (λ e. refl) (λ m e. refl)

same_by : (t : ℕ) (c : List ℕ) (from : ℕ) (p : Packet) (a : machine.AccessPoint) → receive_by (message_of 2 t c) from (asked_by p) a ≡ receive_by (message_of 2 t c) from p a
unfolding receive_by message_of
same_by zero c from p a = response_same from p (fill p.station p.sequence c a.associations) a
same_by (suc t) c from p a = response_same from p (dissociate_exactly p.station p.sequence a.associations) a

silent_by : (t : ℕ) (c : List ℕ) (from : ℕ) (p : Packet) (a : machine.AccessPoint) → (receive_by (message_of 2 t c) from p a).sends ≡ []
unfolding receive_by message_of
silent_by zero c from p a = response_silent from p (fill p.station p.sequence c a.associations) a
silent_by (suc t) c from p a = response_silent from p (dissociate_exactly p.station p.sequence a.associations) a

-- by command: the packet that the reading r and the context c are, at the record a, which is then g

module _ (from : ℕ) (r : Reading) (c : List ℕ) (a g : AccessPoint) where
  pub by_add : r.command ≡ 0 → g ≡ put_point a (with_associations (dissociate_older r.station r.sequence (get_associations a.associations)) (get_point a))
      → record { point = g; sends = [] } ≡ handled_by from (packet_of r c) a
  unfolding handled_by receive packet_of message_of receive_by receive_add quietly get_point
  by_add e h = rw (e, h)

  pub by_notify : distinct (get_associations a.associations) ≡ true → r.command ≡ 1
      → (y : Reply) → y ≡ notify_reply r.station r.sequence (get_associations a.associations)
      → g ≡ put_point a (with_associations (dissociate_older r.station r.sequence (get_associations a.associations)) (get_point a))
      → record { point = g; sends = replies_of from (packet_of r c) (Some y) } ≡ handled_by from (packet_of r c) a
  unfolding handled_by receive packet_of message_of receive_by
  by_notify d e y f h =
      rw (e, f, h) (notify_is from (record { identifier = r.identifier; station = r.station; sequence = r.sequence; message = message_of 1 r.status c }) a d)

  pub by_response : r.command ≡ 2 → g ≡ put_point a (receive_by (message_of 2 r.status c) from (asked r.identifier r.station r.sequence) (get_point a)).point
      → record { point = g; sends = [] } ≡ handled_by from (packet_of r c) a
  unfolding handled_by receive packet_of
  by_response e h =
      let p : Packet = record { identifier = r.identifier; station = r.station; sequence = r.sequence; message = message_of 2 r.status c } in
      rw (e, h, same_by r.status c from p (get_point a))
      (λ k. record { point = put_point a (receive_by (message_of 2 r.status c) from p (get_point a)).point; sends = sym (silent_by r.status c from p (get_point a)) k })
