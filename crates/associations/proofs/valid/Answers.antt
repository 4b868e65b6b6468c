-- `associations::valid` meets its contract. The invariant: the rows passed are within the limits, no two of them are of one
-- station, and how their stations end is noted. Assumes nothing.
use Prim.Native.Nat.{ℕ}
use mathlib.Core.Path.{◌≡◌, refl, sym, ap, ◌∙◌}
use mathlib.Core.Bool.{true, false}
use native.Mathlib.Omega.{arith}
use native.Mathlib.Nat.{not-suc-le-zero}
use borrow.Author.Tests.{le-leb}
use lib.ListN.{length, length-set}
use lib.Seq.{take_all}
use Rattle.std.specs.Prelude.{Option, is_some}
use Rattle.std.proofs.lemmas.List.Folds.{list_all_at, list_all_more}
use Rattle.lists.specs.Places.{every}
use Rattle.lists.proofs.Choices.{and_false, and_true}
use Rattle.lists.proofs.Every.{every_list}
use Rattle.machine.specs.Valid.{valid_association, distinct}
use Rattle.associations.proofs.Apart.{past, Fresh, apart_distinct, found_earlier, not_earlier, new_ending, noted_more, apart_more}
use Rattle.associations.proofs.valid.Goals.{else-seen-ending-via-then-seen-ending+else-is_some, else-seen-ending-via-else-seen-ending}
use Rattle.associations.proofs.valid.Goals as goal

pub loop-i-init : goal.loop-i-init
loop-i-init c =
    record {
      marks = refl;
      limits = refl;
      apart = λ i l. absurd (not-suc-le-zero l);
      noted = λ j l. absurd (not-suc-le-zero l);
    }

pub returns-then-not-within_limits : goal.returns-then-not-within_limits
returns-then-not-within_limits c =
    let rs = c.used-rows.result.now in
    let e : every valid_association rs ≡ false =
    sym (every_list valid_association rs)
    ∙ list_all_at valid_association rs c.loop-i.i past c.loop-i-test.true (sym c.within_limits.ensures ∙ c.if-not-within_limits.true) in
    rw (sym c.used-rows.ensures.elements, e, and_false)

pub returns-then-is_some : goal.returns-then-is_some
returns-then-is_some c =
    let rs = c.used-rows.result.now in
    let e : distinct rs ≡ false =
    found_earlier rs c.loop-i.i c.loop-i-test.true (sym (c.is_some.ensures ∙ ap (λ (o : Option ℕ). is_some o) c.place_of.ensures) ∙ c.if-is_some.true) in
    rw (sym c.used-rows.ensures.elements, e, and_false, and_false)

pub loop-i-preserved : goal.loop-i-preserved
loop-i-preserved c =
    let rs = c.used-rows.result.now in
    let i = c.loop-i.i in
    let l = c.loop-i-test.true in
    let fresh : Fresh rs i = elim c.else-seen-ending.branch [
      | else-seen-ending-via-then-seen-ending+else-is_some w ↦ not_earlier rs i l (sym (w.is_some.ensures ∙ ap (λ (o : Option ℕ). is_some o) w.place_of.ensures) ∙ w.if-is_some.false)
      | else-seen-ending-via-else-seen-ending w ↦ new_ending rs i c.loop-i.seen c.loop-i.invariant.noted w.if-seen-ending.false
    ] in
    record {
      marks = simp length-set c.loop-i.invariant.marks;
      limits = list_all_more valid_association rs i past l ∙ and_true _ _ c.loop-i.invariant.limits (sym c.within_limits.ensures ∙ c.if-not-within_limits.false);
      apart = apart_more rs i c.loop-i.invariant.apart fresh;
      noted = noted_more rs i c.loop-i.seen c.loop-i.invariant.marks c.loop-i.invariant.noted;
    }

pub returns : goal.returns
returns c =
    let rs = c.used-rows.result.now in
    let e : c.loop-i.i ≡ length rs = omega arith in
    let v : every valid_association rs ≡ true =
    sym (every_list valid_association rs) ∙ rw (e, take_all (length rs) rs (omega arith)) at c.loop-i.invariant.limits in
    let d : distinct rs ≡ true = apart_distinct rs (rw e at c.loop-i.invariant.apart) in
    rw (le-leb c.args.t.now.count 16 (omega arith), sym c.used-rows.ensures.elements, v, d)
