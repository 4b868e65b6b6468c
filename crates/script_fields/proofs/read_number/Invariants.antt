use Rattle.script_fields.proofs.Numbers.{Said}
use Rattle.script_fields.proofs.read_number.Given as goal

abbrev pub invariant-loop-x : goal.invariant-loop-x
invariant-loop-x l = Said l.f l.x-index l.v
