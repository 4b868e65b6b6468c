-- `script_runner::rehearse` meets its contract.
-- Assumes nothing.
use Prim.Native.Nat.{ℕ, ◌≤◌}
use mathlib.Core.Path.{◌≡◌, refl, sym, ap, ◌∙◌}
use mathlib.Core.List.{List, ◌++◌}
use Rattle.std.specs.Prelude.{Some, Ok, Err}
use lib.ListN.{length, drop}
use Rattle.lists.proofs.Fronts.{rest_from}
use Rattle.structs.specs.declared.Network.{Network}
use Rattle.network.specs.Lens.{new_network}
use Rattle.floor_link.specs.Answered.{set_up_of}
use Rattle.script.specs.Text.{lines}
use Rattle.script.specs.SetUpLines.{set_up_in}
use Rattle.script.specs.Result.{result_names}
use Rattle.script.specs.Script.{printed, output_of}
use Rattle.script.proofs.Runs.{output_is, output_bad}
use Rattle.script_reader.specs.Heard.{three_lines, Opening, opening_from, nothing_opened}
use Rattle.script_runner.specs.Played.{written_into}
use Rattle.script_runner.proofs.Whole.{values_of, opened_bad, opened, accepted, new_network_lem, network_valid, next_there, lines_after}
use native.Mathlib.Omega.{arith}
use Rattle.answers.proofs.Numbers.{refusal_above}
use Rattle.script_runner.proofs.rehearse.Goals as goal

pub returns-in_default : goal.returns-in_default
unfolding nothing_opened
returns-in_default c =
    let g = opened_bad c.args.script.now nothing_opened c.in_default.ensures refl in
    c.refuse.ensures ∙ ap (λ (t : List ℕ). written_into t c.args.out.now) (sym (output_bad c.args.script.now g))

-- the set-up that was read is one that is accepted
pub returns-in_default-set_up : goal.returns-in_default-set_up
returns-in_default-set_up c =
    let e = accepted c.args.script.now (opening_from (Some c.in-Some.o)) c.in-Some.ensures refl (set_up_of (Err c.in_default-set_up.field-0)) c.in_default-set_up.ensures in
    absurd (omega (arith, e, refusal_above c.in_default-set_up.field-0))

pub slice_bounds-print_all-count : goal.slice_bounds-print_all-count
slice_bounds-print_all-count c = next_there c.args.script.now (opening_from (Some c.in-Some.o)) c.in-Some.ensures refl (set_up_of (Ok c.in-Ok.network)) c.in-Ok.ensures

pub slice_bounds-print_all-start : goal.slice_bounds-print_all-start
slice_bounds-print_all-start c = let h : c.in-Some.o.next ≤ length c.args.script.now = next_there c.args.script.now (opening_from (Some c.in-Some.o)) c.in-Some.ensures refl (set_up_of (Ok c.in-Ok.network)) c.in-Ok.ensures in h

pub print_all-requires : goal.print_all-requires
print_all-requires c = network_valid c.args.script.now (opening_from (Some c.in-Some.o)) c.in-Some.ensures refl (set_up_of (Ok c.in-Ok.network)) c.in-Ok.ensures

-- the text of the lines after the set-up is the script's output
output : (s l : List ℕ) (x : Opening) (w : Network) → (set_up_in (lines s) ≡ Some (values_of x)) × (x.next ≡ three_lines s)
    → w ≡ new_network x.aps x.timeout x.resends → l ≡ drop x.next s → result_names ++ printed w (lines l) ≡ output_of s
output s l x w read new e =
    ap (λ (y : List ℕ). result_names ++ printed w (lines y)) (e ∙ ap (λ (n : ℕ). drop n s) read.1)
    ∙ ap (λ (w : Network). result_names ++ printed w (lines (drop (three_lines s) s))) new
    ∙ ap (λ (ls : List (List ℕ)). result_names ++ printed (new_network x.aps x.timeout x.resends) ls) (lines_after s)
    ∙ sym (output_is s (values_of x) read.0)

pub returns : goal.returns
returns c =
    let x = opening_from (Some c.in-Some.o) in
    let s = c.args.script.now in
    c.print_all.ensures
    ∙ ap (λ (t : List ℕ). written_into t c.args.out.now)
    (output s _ x c.in-Ok.network (opened s x c.in-Some.ensures refl) (new_network_lem s x c.in-Some.ensures refl (set_up_of (Ok c.in-Ok.network)) c.in-Ok.ensures) (rest_from s _))
