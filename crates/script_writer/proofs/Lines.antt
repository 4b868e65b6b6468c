-- The parts of a whole line.
-- Assumes nothing.
use Rattle.std.proofs.Common.{◌≡◌, refl, sym, ◌∙◌, ℕ, ◌+◌, List, length, ◌++◌, append_assoc, Bool, true, false, ◌&&◌, ◌⊎◌, inl, inr, Option}
use Rattle.std.specs.Bool.{then_some}
use Rattle.lists.specs.Table.{accepts}
use Rattle.network.specs.Events as floor
use Rattle.structs.specs.declared.Kind.{Kind}
use Rattle.events.specs.Event.{is_who}
use Rattle.script.specs.Text.{octets_of}
use Rattle.script.specs.EventLine.{name_of}
use Rattle.script.specs.Result.{field, held_fields, result_as}
use Rattle.script.specs.Put.{over}
use Rattle.script_writer.specs.Held.{held_text}
use Rattle.script_writer.proofs.Over.{Written, put_first, put_next}

-- HELD and TABLES where a test passes
held_where : (t : Bool) (l : floor.Line) → held_text (then_some t (l.held, l.tables)) ≡ held_fields t l
unfolding held_fields
held_where true l = refl
held_where false l = refl

parts : (k : Kind) (l : floor.Line) (n : ℕ) (t : Bool) → n ≡ l.answer → t ≡ is_who k && accepts n
    → result_as k l ≡ name_of k ++ field n ++ field l.sent ++ field l.given_up ++ held_text (then_some t (l.held, l.tables)) ++ octets_of "\n"
unfolding result_as
parts k l n t en et = rw (held_where t l, et, en) (simp append_assoc)

-- a test and another, that is looked at only where the first passes
pub both : (k : Kind) (n : ℕ) (q t : Bool) → q ≡ is_who k → ((q ≡ true) × (t ≡ accepts n)) ⊎ ((q ≡ false) × (t ≡ q)) → t ≡ is_who k && accepts n
both k n q t e (inl w) = rw (sym e ∙ w.0) w.1
both k n q t e (inr w) = rw (sym e ∙ w.0) (w.1 ∙ w.0)

-- the parts put one after the other
pub line_written : (k : Kind) (l : floor.Line) {n : ℕ} {t : Bool} {v : List ℕ} {h : Option (ℕ × ℕ)} {b o₁ o₂ o₃ o₄ o₅ o₆ : List ℕ} {n₁ n₂ n₃ n₄ n₅ n₆ : ℕ}
    → n ≡ l.answer → t ≡ is_who k && accepts n → v ≡ name_of k → h ≡ then_some t (l.held, l.tables)
    → n₁ ≡ 0 + length v → o₁ ≡ over 0 v b → n₂ ≡ n₁ + length (field n) → o₂ ≡ over n₁ (field n) o₁
    → n₃ ≡ n₂ + length (field l.sent) → o₃ ≡ over n₂ (field l.sent) o₂ → n₄ ≡ n₃ + length (field l.given_up) → o₄ ≡ over n₃ (field l.given_up) o₃
    → n₅ ≡ n₄ + length (held_text h) → o₅ ≡ over n₄ (held_text h) o₄ → n₆ ≡ n₅ + 1 → o₆ ≡ over n₅ (octets_of "\n") o₅
    → Written (result_as k l) b o₆ n₆
line_written k l {n = n} {t = t} en et ev eh e₁ f₁ e₂ f₂ e₃ f₃ e₄ f₄ e₅ f₅ e₆ f₆ =
    let z = put_next _ _ _ (put_next _ _ _ (put_next _ _ _ (put_next _ _ _ (put_next _ _ _ (put_first _ _ _ _ e₁ f₁) e₂ f₂) e₃ f₃) e₄ f₄) e₅ f₅) e₆ f₆ in
    rw (parts k l n t en et, ← ev, ← eh) z
