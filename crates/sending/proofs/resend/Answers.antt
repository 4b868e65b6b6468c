-- `sending::resend` meets its contract: each move that is due has a notice, in order.
-- Assumes nothing.
use Rattle.std.proofs.Common.{◌≡◌, true, take, refl, ◌∙◌, arith}
use borrow.Author.Tests.{leb-true}
use lib.Seq.{take_all}
use Rattle.lists.specs.Places.{every}
use Rattle.machine.specs.Moves.{notice_of, notices_of}
use Rattle.record.specs.Lens.{named}
use Rattle.record.proofs.ValidLaws.{every_at}
use Rattle.moves.proofs.Ticking.{past}
use Rattle.sending.specs.Sends.{sequence_within}
use Rattle.sending.proofs.Outboxes.{outbox_none}
use Rattle.sending.proofs.Notices.{resent_few, resent_more}
use Rattle.sending.proofs.resend.Goals as goal

pub loop-m-init : goal.loop-m-init
unfolding notices_of
loop-m-init c = c.none-out.ensures ∙ outbox_none

pub move_notify-p-requires : goal.move_notify-p-requires
unfolding sequence_within
move_notify-p-requires c =
    let within : every sequence_within c.used-m-items.result.now ≡ true = rw c.used-m-items.ensures.elements c.requires.1 in
    leb-true _ 4095 (every_at sequence_within c.used-m-items.result.now c.loop-m.m-index past within c.loop-m-test.true)

pub push-requires : goal.push-requires
push-requires c =
    omega (arith, resent_few c.args.own c.used-m-items.result.now c.loop-m.m-index c.loop-m.out c.loop-m.invariant, c.used-m-items.ensures.len, c.requires.0)

pub loop-m-preserved : goal.loop-m-preserved
unfolding notice_of named
loop-m-preserved c =
    c.push.ensures
    ∙ resent_more c.args.own c.used-m-items.result.now c.loop-m.m-index c.loop-m.out c.move_notify-p.result _ past c.loop-m-test.true c.loop-m.invariant refl c.move_notify-p.ensures

pub returns : goal.returns
returns c =
    let ms = c.used-m-items.result.now in
    let e : take c.loop-m.m-index ms ≡ ms = take_all c.loop-m.m-index ms (omega arith) in
    c.loop-m.invariant ∙ rw (e, c.used-m-items.ensures.elements)
