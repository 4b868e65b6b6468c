-- `sending::announce` meets its contract. The loop's invariant: the copies to the first APs are in the outbox.
-- Assumes nothing.
use Rattle.std.proofs.Common.{◌≡◌}
use Rattle.in_flight.specs.Post.{outbox_of}
use Rattle.sending.specs.Sends.{add_packet}
use Rattle.sending.proofs.Notices.{announced}
use Rattle.sending.proofs.announce.Given as goal

abbrev pub invariant-loop-to : goal.invariant-loop-to
invariant-loop-to l = l.out ≡ outbox_of (announced l.own (add_packet l.identifier l.fn.station l.sequence) l.to)
