-- The invariant: the first i octets stand at the front, and the rest is as it came.
use Rattle.std.proofs.Common.{◌≡◌, ◌++◌, take, drop}
use Rattle.script.specs.Fields.{octets_in}
use Rattle.script_fields.proofs.put_octets.Given as goal

abbrev pub invariant-loop-i : goal.invariant-loop-i
invariant-loop-i l = l.octets ≡ take l.i (octets_in l.f) ++ drop l.i l.initial.octets
