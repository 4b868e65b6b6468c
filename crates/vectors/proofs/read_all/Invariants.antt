use Rattle.std.proofs.Common.{◌≡◌, ◌≤◌, ◌-◌, length}
use Rattle.vectors.proofs.read_all.Given as goal

abbrev pub invariant-loop-len : goal.invariant-loop-len
invariant-loop-len g l = (l.len ≤ length l.into) × (length l.into ≡ length l.initial.into)

abbrev pub decreases-loop-len : goal.decreases-loop-len
decreases-loop-len g l = length l.into - l.len
