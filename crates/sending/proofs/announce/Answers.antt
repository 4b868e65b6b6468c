-- `sending::announce` meets its contract: the AP itself is left out, and every other gets a copy.
-- Assumes nothing.
use Rattle.std.proofs.Common.{◌≡◌, ℕ, ap, ◌∙◌, arith}
use Rattle.machine.specs.Packets.{fields_as, written, carried}
use Rattle.machine.specs.AccessPoint.{add_notifies}
use Rattle.in_flight.specs.Post.{outbox_of}
use Rattle.sending.specs.Sends.{add_packet}
use Rattle.sending.proofs.Outboxes.{outbox_none}
use Rattle.sending.proofs.Notices.{announced, announced_few, announced_own, announced_other}
use Rattle.sending.proofs.announce.Goals as goal
use Rattle.sending.proofs.announce.Goals.{then-to-own, else-to-own}

pub loop-to-init : goal.loop-to-init
unfolding add_notifies
loop-to-init c = c.none-out.ensures ∙ outbox_none

pub push-requires : goal.push-requires
push-requires c =
    omega (arith, announced_few c.args.own (add_packet c.args.identifier c.args.station c.args.sequence) c.loop-to.out c.loop-to.to c.loop-to.invariant, c.requires.1)

pub loop-to-preserved : goal.loop-to-preserved
unfolding carried written fields_as
loop-to-preserved c =
    let q = add_packet c.args.identifier c.args.station c.args.sequence in
    let i = c.loop-to.to in
    let h = c.loop-to.invariant in
    elim c.if-to-own.branch [
      | then-to-own w ↦ w.out-is ∙ w.push.ensures ∙ announced_other c.args.own q c.loop-to.out i h w.if-to-own.true c.send-p.result c.send-p.ensures
      | else-to-own w ↦ w.out-is ∙ announced_own c.args.own q c.loop-to.out i h w.if-to-own.false
    ]

pub returns : goal.returns
returns c =
    let e : c.loop-to.to ≡ c.args.ap_count = omega arith in
    c.loop-to.invariant ∙ ap (λ (k : ℕ). outbox_of (announced c.args.own (add_packet c.args.identifier c.args.station c.args.sequence) k)) e
