-- `joining::join` meets its contract: the tests at the station's place are the machine's, and each origin has its record and its notice.
-- Assumes nothing.
use Rattle.std.proofs.Common.{◌≡◌, ◌<◌, ℕ, List, Bool, Err, sym, refl, ap, ◌∙◌, arith}
use Rattle.lists.specs.Table.{first_of}
use Rattle.machine.specs.AccessPoint as machine
use Rattle.machine.specs.AccessPoint.{origin_of, join_tests, join_from}
use Rattle.structs.specs.declared.AccessPoint.{AccessPoint}
use Rattle.record.specs.Lens.{get_point, put_point}
use Rattle.excerpt.specs.declared.Excerpt.{Excerpt}
use Rattle.excerpt.specs.Excerpts.{Seen}
use Rattle.joining.specs.declared.Notice.{Notice}
use Rattle.joining.specs.declared.Notice.TheVariants.{Silent}
use Rattle.structs.specs.declared.Origin.{Origin}
use Rattle.answers.proofs.Numbers.{refusal_above}
use Rattle.std.proofs.lemmas.Result.{err_from_is_err_and}
use Rattle.joining.specs.Join.{joined_of, notice_from, origin_from, moving_from, tests_at, join_done}
use Rattle.excerpt.proofs.Laws.{at_bound, rows_bound, place_allowed, identifier_is}
use Rattle.joining.proofs.Laws.{tests_same, place_room, moves_room, join_refused, join_accepted, point_another, point_this, point_nowhere}
use Rattle.joining.proofs.join.Goals as goal

-- v is the answer at the station's place, of the origin o, which is the machine's m
module _ (k q r b : ℕ) (s : List ℕ) (n : ℕ) (c : List ℕ) (a : AccessPoint) (x : Excerpt) (w : Seen s a x) (m : machine.Origin) (o : Origin) (e : origin_from o ≡ m) (v : ℕ)
    (f : v ≡ first_of (tests_at x.at x.count x.row.sequence n x.moves.count (moving_from o))) where
  refused : (v ≡ 0 → ⊥) → record { answer = v; point = a; notice = Silent } ≡ join_done m k q r b s n c a
  refused h = join_refused (origin_from o) k q r b s n c a v (f ∙ tests_same s a x w n o) h ∙ ap (λ (z : machine.Origin). join_done z k q r b s n c a) e

  -- accepted: there is room for the row
  room : v ≡ 0 → x.at < 16
  room z = place_room x.at x.count x.row.sequence n x.moves.count (moving_from o) (sym f ∙ z) (at_bound s a x w) (rows_bound s a x w)

  -- accepted, from the origin d: the record p is the machine's, and y is the notice
  done : v ≡ 0 → (d : machine.Origin) → origin_from o ≡ d → (p : AccessPoint) (y : Notice)
      → p ≡ put_point a (join_from d k q r 0 b s n c (get_point a)).point → y ≡ notice_from d a.next_identifier
      → record { answer = v; point = p; notice = y } ≡ join_done m k q r b s n c a
  done z d i p y g h =
      join_accepted d k q r b s n c a v p y (f ∙ tests_same s a x w n o ∙ ap (λ (u : machine.Origin). first_of (join_tests u s n (get_point a))) i) z g h
      ∙ ap (λ (u : machine.Origin). join_done u k q r b s n c a) (sym i ∙ e)

-- the tests at the station's place, whether a move is needed being told by the code
told : (v i k q n m : ℕ) (d e : Bool) → v ≡ first_of (tests_at i k q n m d) → d ≡ e → v ≡ first_of (tests_at i k q n m e)
told v i k q n m d e f g = f ∙ ap (λ (u : Bool). first_of (tests_at i k q n m u)) g

pub returns-in_err-answer_at-clause-result_value : goal.returns-in_err-answer_at-clause-result_value
returns-in_err-answer_at-clause-result_value c =
    let r = c.args in
    let s = r.setup in
    let q = r.request in
    let f = told _ _ _ _ _ _ _ _ c.in_err-answer_at.ensures c.needs_move.ensures in
    let e = err_from_is_err_and c.from_residual.result c.from_residual.ensures.1 in
    λ a w.
    ap (joined_of a) (e.1 ∙ ap Err e.2)
    ∙ refused s.ap_count s.timeout s.resend_limit r.own q.station q.sequence r.context.now a r.x w _ c.origin_of-origin.result c.origin_of-origin.ensures _ f (λ z. omega (arith, z, refusal_above c.in_err-answer_at.field-0.0))

pub from_another-requires : goal.from_another-requires
from_another-requires c =
    let x = c.args.x in
    let f = told _ _ _ _ _ _ _ _ c.in_ok-answer_at.ensures (c.needs_move.ensures ∙ ap moving_from c.in-Another.is) in
    moves_room x.at x.count x.row.sequence c.args.request.sequence x.moves.count (sym f)

pub returns-in-Another : goal.returns-in-Another
returns-in-Another c =
    let r = c.args in
    let s = r.setup in
    let q = r.request in
    let o = c.in-Another.o in
    let h = c.from_another.ensures in
    let f = told _ _ _ _ _ _ _ _ c.in_ok-answer_at.ensures c.needs_move.ensures in record {
      result_value = λ a w. done s.ap_count s.timeout s.resend_limit r.own q.station q.sequence r.context.now a r.x w _ c.origin_of-origin.result c.origin_of-origin.ensures _ f refl (machine.another o) (ap origin_from c.in-Another.is) _ _
          (h.result_value a w ∙ point_another o _ _ _ _ _ _ _ _) (ap (notice_from (machine.another o)) (identifier_is q.station a r.x w));
      allowed = λ a w. place_allowed q.station a r.x w _ _ h.edit_value.0 h.edit_value.1 (room s.ap_count s.timeout s.resend_limit r.own q.station q.sequence r.context.now a r.x w _ c.origin_of-origin.result c.origin_of-origin.ensures _ f refl);
    }

pub returns-in-This : goal.returns-in-This
returns-in-This c =
    let r = c.args in
    let s = r.setup in
    let q = r.request in
    let h = c.from_this.ensures in
    let f = told _ _ _ _ _ _ _ _ c.in_ok-answer_at.ensures c.needs_move.ensures in record {
      result_value = λ a w. done s.ap_count s.timeout s.resend_limit r.own q.station q.sequence r.context.now a r.x w _ c.origin_of-origin.result c.origin_of-origin.ensures _ f refl machine.this (ap origin_from c.in-This.is) _ _
          (h.result_value a w ∙ point_this _ _ _ _ _ _ _ _) refl;
      allowed = λ a w. place_allowed q.station a r.x w _ _ h.edit_value.0 h.edit_value.1 (room s.ap_count s.timeout s.resend_limit r.own q.station q.sequence r.context.now a r.x w _ c.origin_of-origin.result c.origin_of-origin.ensures _ f refl);
    }

pub returns-in-Nowhere : goal.returns-in-Nowhere
returns-in-Nowhere c =
    let r = c.args in
    let s = r.setup in
    let q = r.request in
    let h = c.from_nowhere.ensures in
    let f = told _ _ _ _ _ _ _ _ c.in_ok-answer_at.ensures c.needs_move.ensures in record {
      result_value = λ a w. done s.ap_count s.timeout s.resend_limit r.own q.station q.sequence r.context.now a r.x w _ c.origin_of-origin.result c.origin_of-origin.ensures _ f refl machine.nowhere (ap origin_from c.in-Nowhere.is) _ _
          (h.result_value a w ∙ point_nowhere _ _ _ _ _ _ _ _) (ap (notice_from machine.nowhere) (identifier_is q.station a r.x w));
      allowed = λ a w. place_allowed q.station a r.x w _ _ h.edit_value.0 h.edit_value.1 (room s.ap_count s.timeout s.resend_limit r.own q.station q.sequence r.context.now a r.x w _ c.origin_of-origin.result c.origin_of-origin.ensures _ f refl);
    }
