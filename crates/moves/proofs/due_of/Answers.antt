-- `moves::due_of` meets its contract. The loop's invariant: what is put down are those among the first i moves that are sent again.
-- Assumes nothing.
use mathlib.Core.Path.{◌≡◌, sym, ◌∙◌}
use native.Mathlib.Omega.{arith}
use lib.ListN.{take}
use lib.Seq.{take_all}
use Rattle.slots.specs.Lists.{over}
use Rattle.structs.specs.Lists.{no_moves}
use Rattle.moves.specs.Ticks.{is_due, after}
use Rattle.moves.proofs.Ticking.{picked_due, due_stays, room, put_in, put_out}
use Rattle.moves.proofs.due_of.Goals.{then-sent_again, else-sent_again}
use Rattle.moves.proofs.due_of.Goals as goal

pub loop-m-init : goal.loop-m-init
unfolding over
loop-m-init c = c.none-out.ensures

pub after_tick-requires : goal.after_tick-requires
after_tick-requires c = due_stays _ (sym c.sent_again.ensures ∙ c.if-sent_again.true)

pub push-requires : goal.push-requires
push-requires c =
    let ms = c.used-m-items.result.now in
    omega (arith, room is_due (after c.args.timeout) no_moves c.loop-m.out ms c.loop-m.m-index c.loop-m-test.true c.loop-m.invariant, c.used-m-items.ensures.len)

pub loop-m-preserved : goal.loop-m-preserved
loop-m-preserved c =
    let ms = c.used-m-items.result.now in
    let i = c.loop-m.m-index in
    let a = after c.args.timeout in
    let l = c.loop-m-test.true in
    let e = c.loop-m.invariant in
    elim c.if-sent_again.branch [
      | then-sent_again w ↦ w.out-is ∙ w.push.ensures ∙ rw w.after_tick.ensures (put_in is_due a no_moves c.loop-m.out ms i l e (sym c.sent_again.ensures ∙ w.if-sent_again.true))
      | else-sent_again w ↦ w.out-is ∙ put_out is_due a no_moves c.loop-m.out ms i l e (sym c.sent_again.ensures ∙ w.if-sent_again.false)
    ]

pub returns : goal.returns
returns c =
    let ms = c.used-m-items.result.now in
    let e : take c.loop-m.m-index ms ≡ ms = take_all c.loop-m.m-index ms (omega arith) in
    c.loop-m.invariant
    ∙ rw (e, picked_due c.args.timeout ms, c.used-m-items.ensures.elements)
