use Rattle.std.proofs.Common.{◌≡◌, length}
use Rattle.script_feed.specs.Feed.{Good}
use Rattle.rehearsal.proofs.run.Given as goal

abbrev pub invariant-loop : goal.invariant-loop
invariant-loop g l = Good l.state × (length l.input ≡ length l.initial.input) × (length l.out ≡ length l.initial.out)
