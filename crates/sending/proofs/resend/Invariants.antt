-- `sending::resend` meets its contract. The loop's invariant: the notices of the first moves are in the outbox.
-- Assumes nothing.
use Rattle.std.proofs.Common.{◌≡◌, take}
use Rattle.in_flight.specs.Post.{outbox_of}
use Rattle.sending.proofs.Notices.{notices_from}
use Rattle.sending.proofs.resend.Given as goal

abbrev pub invariant-loop-m : goal.invariant-loop-m
invariant-loop-m l = l.out ≡ outbox_of (notices_from l.own (take l.m-index l.m-items))
