-- The loop's invariant: what is put down are those among the first i moves that stay open.
-- Assumes nothing.
use mathlib.Core.Path.{◌≡◌}
use lib.ListN.{take}
use Rattle.structs.specs.Lists.{put_moves, no_moves}
use Rattle.moves.specs.Ticks.{is_due, after}
use Rattle.moves.proofs.Ticking.{picked}
use Rattle.moves.proofs.due_of.Given as goal

abbrev pub invariant-loop-m : goal.invariant-loop-m
invariant-loop-m l = l.out ≡ put_moves no_moves (picked is_due (after l.timeout) (take l.m-index l.m-items))
