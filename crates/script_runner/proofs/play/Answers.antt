-- `script_runner::play` meets its contract.
-- Assumes nothing.
use Rattle.std.proofs.Common.{rules, tests, eqb}
use Rattle.std.proofs.lemmas.Fn.{always_returns_same}
use Prim.Native.Nat.{ℕ}
use mathlib.Core.Path.{◌≡◌, refl, ap, ◌∙◌}
use mathlib.Core.List.{List, ◌∷◌}
use native.Mathlib.Omega.{arith}
use lib.ListN.{length}
use Rattle.network.proofs.Ready.{ready}
use Rattle.script.specs.Text.{lines}
use Rattle.script.specs.Script.{printed}
use Rattle.script_runner.specs.Played.{text_in}
use Rattle.script_runner.proofs.Buffers.{front_taken}
use Rattle.script_runner.proofs.Parts.{next_line_is}
use Rattle.script_runner.proofs.Playing.{playing_start, next_fits, next_turn, next_put, all_done, all_out, out_length}
use Rattle.script_runner.proofs.play.Goals as goal

pub loop-part-init : goal.loop-part-init
loop-part-init c =
    (playing_start c.args.network c.args.s.now _ (ready c.args.network _ c.well_formed.0 c.requires.network_value) (ap (λ r. r.rest.now) c.into_iter-part-iterator.ensures.into_iter_gives ∙ c.split_inclusive-part-items.ensures.rest), refl)

pub turn-n-requires : goal.turn-n-requires
turn-n-requires c = (c.loop-part.invariant.0.ready.sized, c.loop-part.invariant.0.ready.valid)

pub put-requires : goal.put-requires
put-requires c =
    let g = c.in-Some.ensures.steps in
    let f = g.1.2 (λ (x : ℕ). eqb x 10) (always_returns_same _ _ _ (λ a r q k. search (rules, tests))) in
    let rest = c.loop-part.part-iterator.rest.now in
    let later = c.next.new.self.rest.now in
    let e : lines rest ≡ c.unwrap_or-l.result.now ∷ lines later =
    rw c.unwrap_or-l.ensures (next_line_is rest later g.1.0 c.strip_suffix.result c.in-Some.part g.0 g.1.1 f.1 g.2 c.strip_suffix.ensures.cases) in
    let h = next_fits c.args.network c.loop-part.floor c.args.s.now c.loop-part.len rest c.loop-part.invariant.0 c.unwrap_or-l.result.now later e in
    let t = front_taken c.turn-n.result (text_in c.loop-part.floor c.unwrap_or-l.result.now) c.loop-part.text c.turn-n.new.text c.turn-n.ensures.value c.turn-n.ensures.text_after in
    let o = ap length c.loop-part.invariant.1 ∙ out_length c.loop-part.len (printed c.args.network (lines c.args.s.now)) c.args.out.now c.loop-part.invariant.0.count (omega (arith, c.loop-part.invariant.0.count, c.requires.s_in_bounds)) in
    rw t (omega (arith, h, o, c.requires.s_in_bounds))

pub loop-part-preserved : goal.loop-part-preserved
loop-part-preserved c =
    let g = c.in-Some.ensures.steps in
    let f = g.1.2 (λ (x : ℕ). eqb x 10) (always_returns_same _ _ _ (λ a r q k. search (rules, tests))) in
    let rest = c.loop-part.part-iterator.rest.now in
    let later = c.next.new.self.rest.now in
    let e : lines rest ≡ c.unwrap_or-l.result.now ∷ lines later =
    rw c.unwrap_or-l.ensures (next_line_is rest later g.1.0 c.strip_suffix.result c.in-Some.part g.0 g.1.1 f.1 g.2 c.strip_suffix.ensures.cases) in
    let x : List ℕ = text_in c.loop-part.floor c.unwrap_or-l.result.now in
    let t = front_taken c.turn-n.result x c.loop-part.text c.turn-n.new.text c.turn-n.ensures.value c.turn-n.ensures.text_after in (
      next_turn c.args.network c.loop-part.floor c.args.s.now c.loop-part.len rest c.loop-part.invariant.0 c.unwrap_or-l.result.now later e _ _ c.turn-n.ensures.network_value c.turn-n.ensures.value,
      rw (c.put.ensures, t, c.loop-part.invariant.1, c.turn-n.ensures.value) (next_put c.args.network c.loop-part.floor c.args.s.now c.loop-part.len rest c.loop-part.invariant.0 c.unwrap_or-l.result.now later e c.args.out.now),
    )

pub returns : goal.returns
returns c =
    record {
      value = all_done c.args.network c.loop-part.floor c.args.s.now c.loop-part.len c.loop-part.part-iterator.rest.now c.loop-part.invariant.0 c.in-None.ensures.steps.0;
      out_after = c.loop-part.invariant.1 ∙ all_out c.args.network c.loop-part.floor c.args.s.now c.loop-part.len c.loop-part.part-iterator.rest.now c.loop-part.invariant.0 c.in-None.ensures.steps.0 c.args.out.now;
      network_value_2 = c.loop-part.invariant.0.ready.valid;
    }
