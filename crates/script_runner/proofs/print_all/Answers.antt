-- `script_runner::print_all` meets its contract.
-- Assumes nothing.
use Prim.Native.Nat.{ℕ, ◌+◌, ◌-◌, ◌≤◌, ◌<◌}
use mathlib.Core.Path.{◌≡◌, refl, sym, ap, ◌∙◌}
use mathlib.Core.List.{List, ◌++◌}
use native.Mathlib.Omega.{arith}
use borrow.Author.Tests.{leb-true, leb-false}
use lib.ListN.{length, take, drop, length-append}
use Rattle.script.specs.Put.{over}
use Rattle.script.specs.Text.{lines}
use Rattle.script.specs.Result.{result_names}
use Rattle.script.specs.Script.{printed}
use Rattle.script_runner.specs.declared.Played.{Played}
use Rattle.script_runner.proofs.Buffers.{room_left, both_written}
use Rattle.script_runner.proofs.Whole.{refused_is, written_is, names_length}
use Rattle.script_runner.proofs.print_all.Goals as goal

-- all of it: the names, and what the lines print
whole : (t : List ℕ) → length (result_names ++ t) ≡ 38 + length t
whole t = length-append result_names t ∙ ap (λ (n : ℕ). n + length t) names_length

pub returns-then-out-lt38 : goal.returns-then-out-lt38
returns-then-out-lt38 c =
    let l : length c.args.out.now < length (result_names ++ (printed c.args.network (lines c.args.s.now))) = omega (arith, whole (printed c.args.network (lines c.args.s.now)), c.if-out-lt38.true) in
    refused_is (result_names ++ (printed c.args.network (lines c.args.s.now))) c.args.out.now _ refl l

pub returns-then-not-fits : goal.returns-then-not-fits
returns-then-not-fits c =
    let l : length c.args.out.now < length (result_names ++ (printed c.args.network (lines c.args.s.now))) =
    omega (arith, whole (printed c.args.network (lines c.args.s.now)), leb-false _ _ (sym c.fits.ensures ∙ c.if-not-fits.true), c.if-out-lt38.false) in
    refused_is (result_names ++ (printed c.args.network (lines c.args.s.now))) c.args.out.now _ refl l

pub play-p-requires : goal.play-p-requires
unfolding result_names
play-p-requires c =
    let room : 38 + length (printed c.args.network (lines c.args.s.now)) ≤ length c.args.out.now =
    omega (arith, leb-true _ _ (sym c.fits.ensures ∙ c.if-not-fits.false), c.if-out-lt38.false) in
    let names : c.put.new.out ≡ over 0 result_names c.args.out.now = c.put.ensures in
    let left : length (printed c.args.network (lines c.args.s.now)) ≤ length (take (length c.put.new.out - 38) (drop 38 c.put.new.out)) =
    room_left 38 result_names (printed c.args.network (lines c.args.s.now)) c.args.out.now c.put.new.out names_length room names in
    record { network_value = c.requires; s_in_bounds = left }

pub overflow_add-result : goal.overflow_add-result
unfolding result_names
overflow_add-result c =
    let room : 38 + length (printed c.args.network (lines c.args.s.now)) ≤ length c.args.out.now =
    omega (arith, leb-true _ _ (sym c.fits.ensures ∙ c.if-not-fits.false), c.if-out-lt38.false) in
    let names : c.put.new.out ≡ over 0 result_names c.args.out.now = c.put.ensures in
    let left : length (printed c.args.network (lines c.args.s.now)) ≤ length (take (length c.put.new.out - 38) (drop 38 c.put.new.out)) =
    room_left 38 result_names (printed c.args.network (lines c.args.s.now)) c.args.out.now c.put.new.out names_length room names in
    let size : c.play-p.result.len ≡ length (printed c.args.network (lines c.args.s.now)) = ap (λ (x : Played). x.len) c.play-p.ensures.value in
    omega (arith, size, room)

pub returns : goal.returns
unfolding result_names
returns c =
    let room : 38 + length (printed c.args.network (lines c.args.s.now)) ≤ length c.args.out.now =
    omega (arith, leb-true _ _ (sym c.fits.ensures ∙ c.if-not-fits.false), c.if-out-lt38.false) in
    let names : c.put.new.out ≡ over 0 result_names c.args.out.now = c.put.ensures in
    let left : length (printed c.args.network (lines c.args.s.now)) ≤ length (take (length c.put.new.out - 38) (drop 38 c.put.new.out)) =
    room_left 38 result_names (printed c.args.network (lines c.args.s.now)) c.args.out.now c.put.new.out names_length room names in
    let size : c.play-p.result.len ≡ length (printed c.args.network (lines c.args.s.now)) = ap (λ (x : Played). x.len) c.play-p.ensures.value in
    let l : length (result_names ++ (printed c.args.network (lines c.args.s.now))) ≤ length c.args.out.now = omega (arith, whole (printed c.args.network (lines c.args.s.now)), room) in
    written_is _ (result_names ++ (printed c.args.network (lines c.args.s.now))) c.args.out.now _ l (ap (λ (n : ℕ). 38 + n) size ∙ sym (whole (printed c.args.network (lines c.args.s.now))))
    (both_written 38 result_names (printed c.args.network (lines c.args.s.now)) c.args.out.now c.put.new.out names_length room names c.play-p.new.out c.play-p.ensures.out_after)
