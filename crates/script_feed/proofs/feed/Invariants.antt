-- The loop over the octets of a piece: those so far have been fed.
-- Assumes nothing.
use Rattle.script_feed.specs.Feed.{feeding_of}
use Rattle.script_feed.proofs.Feeding.{Fed}
use Rattle.script_feed.proofs.feed.Given as goal

abbrev pub invariant-loop-x : goal.invariant-loop-x
invariant-loop-x l = Fed (feeding_of l.fn.state) l.fn.piece l.fn.out l.out l.state l.x-index l.len
