-- No octet from `at` up to i is c.
use Rattle.std.proofs.Common.{◌≡◌}
use Rattle.script.specs.Text.{place_from}
use Rattle.script_reader.proofs.place_of.Given as goal

abbrev pub invariant-loop-i : goal.invariant-loop-i
invariant-loop-i l = place_from l.c l.at l.s ≡ place_from l.c l.i l.s
