-- `script_runner::measure` meets its contract.
-- Assumes nothing.
use Rattle.std.proofs.Common.{rules, tests, eqb}
use Rattle.std.proofs.lemmas.Fn.{always_returns_same}
use Prim.Native.Nat.{ℕ}
use mathlib.Core.Path.{◌≡◌, ap, ◌∙◌}
use mathlib.Core.List.{◌∷◌}
use native.Mathlib.Omega.{arith}
use Rattle.network.proofs.Ready.{ready}
use Rattle.script.specs.Text.{lines}
use Rattle.script_runner.proofs.Parts.{next_line_is}
use Rattle.script_runner.proofs.Playing.{playing_start, next_fits, next_turn, all_printed, all_done, too_long, fits_in}
use Rattle.script_runner.proofs.measure.Goals as goal

pub loop-piece-init : goal.loop-piece-init
loop-piece-init c =
    (playing_start c.args.network c.args.s.now _ (ready c.args.network _ c.well_formed.0 c.requires) (ap (λ r. r.rest.now) c.into_iter-piece-iterator.ensures.into_iter_gives ∙ c.split_inclusive-piece-items.ensures.rest), omega arith)

pub turn-n-requires : goal.turn-n-requires
turn-n-requires c = (c.loop-piece.invariant.0.ready.sized, c.loop-piece.invariant.0.ready.valid)

pub returns-then-room-len-clause-value : goal.returns-then-room-len-clause-value
returns-then-room-len-clause-value c =
    let g = c.in-Some.ensures.steps in
    let f = g.1.2 (λ (x : ℕ). eqb x 10) (always_returns_same _ _ _ (λ a r q k. search (rules, tests))) in
    let rest = c.loop-piece.piece-iterator.rest.now in
    let later = c.next.new.self.rest.now in
    let e : lines rest ≡ c.unwrap_or-l.result.now ∷ lines later =
    rw c.unwrap_or-l.ensures (next_line_is rest later g.1.0 c.strip_suffix.result c.in-Some.piece g.0 g.1.1 f.1 g.2 c.strip_suffix.ensures.cases) in
    let h = next_fits c.args.network c.loop-piece.floor c.args.s.now c.loop-piece.len rest c.loop-piece.invariant.0 c.unwrap_or-l.result.now later e in
    too_long c.args.network (lines c.args.s.now) c.args.room (omega (arith, h, c.if-room-len.true, c.turn-n.ensures.value, c.loop-piece.invariant.1))

pub loop-piece-preserved : goal.loop-piece-preserved
loop-piece-preserved c =
    let g = c.in-Some.ensures.steps in
    let f = g.1.2 (λ (x : ℕ). eqb x 10) (always_returns_same _ _ _ (λ a r q k. search (rules, tests))) in
    let rest = c.loop-piece.piece-iterator.rest.now in
    let later = c.next.new.self.rest.now in
    let e : lines rest ≡ c.unwrap_or-l.result.now ∷ lines later =
    rw c.unwrap_or-l.ensures (next_line_is rest later g.1.0 c.strip_suffix.result c.in-Some.piece g.0 g.1.1 f.1 g.2 c.strip_suffix.ensures.cases) in
    (next_turn c.args.network c.loop-piece.floor c.args.s.now c.loop-piece.len rest c.loop-piece.invariant.0 c.unwrap_or-l.result.now later e _ _ c.turn-n.ensures.network_value c.turn-n.ensures.value, omega (arith, c.if-room-len.false, c.loop-piece.invariant.1))

pub returns-clause-value : goal.returns-clause-value
returns-clause-value c =
    let e = all_printed c.args.network c.loop-piece.floor c.args.s.now c.loop-piece.len c.loop-piece.piece-iterator.rest.now c.loop-piece.invariant.0 c.in-None.ensures.steps.0 in
    fits_in c.args.network (lines c.args.s.now) c.args.room _ (omega (arith, e, c.loop-piece.invariant.1)) (all_done c.args.network c.loop-piece.floor c.args.s.now c.loop-piece.len c.loop-piece.piece-iterator.rest.now c.loop-piece.invariant.0 c.in-None.ensures.steps.0)

pub returns-clause-network_value : goal.returns-clause-network_value
returns-clause-network_value c = c.loop-piece.invariant.0.ready.valid
