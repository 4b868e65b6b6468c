-- `in_flight::post` meets its contract. The loop's invariant: the first i packets are put in flight.
-- Assumes nothing.
use mathlib.Core.Path.{◌≡◌}
use lib.ListN.{take}
use Rattle.structs.specs.Lists.{get_in_flight, put_in_flight}
use Rattle.in_flight.specs.Post.{posted}
use Rattle.in_flight.proofs.post.Given as goal

abbrev pub invariant-loop-p : goal.invariant-loop-p
invariant-loop-p l = l.t ≡ put_in_flight l.initial.t (posted (take l.p-index l.p-items) (get_in_flight l.initial.t))
