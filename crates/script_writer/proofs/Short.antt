-- How long the texts of a printed line are: an event's name at most 7, a number with its blank at most 4, a line at most 28.
-- Assumes nothing.
use Prim.Native.Nat.{ℕ, ◌≤◌, ◌/◌}
use mathlib.Core.Bool.{Bool, true, false, cond, ◌&&◌}
use mathlib.Core.List.{[], ◌∷◌}
use native.Mathlib.Omega.{arith}
use lib.Dec.{ltb}
use lib.ListN.{length, length-append}
use Rattle.lists.proofs.Choices.{by_bool}
use Rattle.lists.specs.Table.{accepts}
use Rattle.network.specs.Events as floor
use Rattle.structs.specs.declared.Kind.{Kind}
use Rattle.structs.specs.declared.Kind.TheVariants.{Join, Leave, Deliver, Repeat, Lose, Tick, Who}
use Rattle.events.specs.Event.{is_who}
use Rattle.script.specs.Fields.{digit, decimal}
use Rattle.script.specs.EventLine.{name_of}
use Rattle.std.specs.Prelude.{Option, None, Some}
use Rattle.script_writer.specs.Held.{held_text}
use Rattle.script.specs.Result.{field, held_fields, result_as}

pub name_short : (k : Kind) → length (name_of k) ≤ 7
name_short Join = omega arith
name_short Leave = omega arith
name_short Deliver = omega arith
name_short Repeat = omega arith
name_short Lose = omega arith
name_short Tick = omega arith
name_short Who = omega arith

pub field_short : (n : ℕ) → length (field n) ≤ 4
unfolding field decimal
field_short n =
    by_bool (λ (b : Bool). length (32 ∷ cond b (digit n ∷ []) (cond (ltb n 100) (digit (n / 10) ∷ digit n ∷ []) (digit (n / 100) ∷ digit (n / 10) ∷ digit n ∷ []))) ≤ 4) (ltb n 10)
    (λ e. omega arith)
    (λ e.
    by_bool (λ (b : Bool). length (32 ∷ cond b (digit (n / 10) ∷ digit n ∷ []) (digit (n / 100) ∷ digit (n / 10) ∷ digit n ∷ [])) ≤ 4) (ltb n 100) (λ f. omega arith) (λ f. omega arith))

pub held_short : (t : Bool) (l : floor.Line) → length (held_fields t l) ≤ 8
unfolding held_fields
held_short true l = simp length-append (omega (arith, field_short l.held, field_short l.tables))
held_short false l = omega arith

pub text_short : (o : Option (ℕ × ℕ)) → length (held_text o) ≤ 8
text_short None = omega arith
text_short (Some p) = simp length-append (omega (arith, field_short p.0, field_short p.1))

pub result_short : (k : Kind) (l : floor.Line) → length (result_as k l) ≤ 28
unfolding result_as
result_short k l =
    simp length-append
    (omega (arith, name_short k, field_short l.answer, field_short l.sent, field_short l.given_up, held_short (is_who k && accepts l.answer) l))
