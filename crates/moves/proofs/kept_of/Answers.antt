-- `moves::kept_of` meets its contract. The loop's invariant: what is put down are those among the first i moves that stay open.
-- Assumes nothing.
use mathlib.Core.Path.{◌≡◌, sym, ◌∙◌}
use native.Mathlib.Omega.{arith}
use lib.ListN.{take}
use lib.Seq.{take_all}
use Rattle.moves.specs.Ticks.{stays, after}
use Rattle.moves.proofs.Ticking.{picked_kept, room, put_in, put_out}
use Rattle.moves.proofs.kept_of.Goals.{then-stays_open, else-stays_open}
use Rattle.moves.proofs.kept_of.Goals as goal

pub push-requires : goal.push-requires
push-requires c =
    let ms = c.used-m-items.result.now in
    omega (arith, room stays (after c.args.timeout) c.args.t.now c.loop-m.out ms c.loop-m.m-index c.loop-m-test.true c.loop-m.invariant, c.used-m-items.ensures.len)

pub loop-m-preserved : goal.loop-m-preserved
loop-m-preserved c =
    let ms = c.used-m-items.result.now in
    let i = c.loop-m.m-index in
    let a = after c.args.timeout in
    let l = c.loop-m-test.true in
    let e = c.loop-m.invariant in
    elim c.if-stays_open.branch [
      | then-stays_open w ↦ w.out-is ∙ w.push.ensures ∙ rw w.after_tick.ensures (put_in stays a c.args.t.now c.loop-m.out ms i l e (sym c.stays_open.ensures ∙ w.if-stays_open.true))
      | else-stays_open w ↦ w.out-is ∙ put_out stays a c.args.t.now c.loop-m.out ms i l e (sym c.stays_open.ensures ∙ w.if-stays_open.false)
    ]

pub returns : goal.returns
returns c =
    let ms = c.used-m-items.result.now in
    let e : take c.loop-m.m-index ms ≡ ms = take_all c.loop-m.m-index ms (omega arith) in
    c.loop-m.invariant
    ∙ rw (e, picked_kept c.args.timeout ms, c.used-m-items.ensures.elements)
