-- `alone::receivers` meets its contract. The loop's invariant: the first i receivers are in their places.
-- Assumes nothing.
use Rattle.std.proofs.Common.{◌≡◌, ℕ, List, get_or, take, refl, ap, ◌∙◌, arith}
use lib.ListN.{set}
use lib.Seq.{take_all}
use Rattle.machine.specs.Associations.{padded}
use Rattle.in_flight.proofs.Posted.{past}
use Rattle.alone.specs.Front.{outbox_receivers}
use Rattle.alone.proofs.Packets.{receivers_next}
use Rattle.alone.proofs.receivers.Goals as goal

pub loop-i-init : goal.loop-i-init
unfolding padded
loop-i-init c = refl

pub loop-i-preserved : goal.loop-i-preserved
loop-i-preserved c =
    let ps = c.used-p-items.result.now in
    let i = c.loop-i.i in
    ap (λ (t : List ℕ). set t i (get_or ps i past).to) c.loop-i.invariant
    ∙ receivers_next ps i past c.loop-i-test.true (omega (arith, c.requires.count, c.used-p-items.ensures.len))

pub returns : goal.returns
unfolding outbox_receivers
returns c =
    let ps = c.used-p-items.result.now in
    let e : take c.loop-i.i ps ≡ ps = take_all c.loop-i.i ps (omega arith) in
    c.loop-i.invariant ∙ rw (e, c.used-p-items.ensures.elements)
