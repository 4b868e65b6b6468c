-- `events::holders` meets its contract. The loop's invariant: the mask is that of the access points from i on.
-- Assumes nothing.
use Prim.Native.Nat.{◌-◌}
use native.Mathlib.Omega.{arith}
use Rattle.lists.proofs.Every.{all_at}
use Rattle.events.proofs.Within.{past}
use Rattle.events.proofs.Held.{held_none, held_room, held_next}
use Rattle.events.proofs.holders.Goals as goal

pub loop-i-init : goal.loop-i-init
loop-i-init c = held_none c.args.station c.args.points.now

pub held_from-held-requires-clause-usable : goal.held_from-held-requires-clause-usable
held_from-held-requires-clause-usable c = all_at c.args.points.now (c.loop-i.i - 1) past c.requires.1 (omega arith)

pub held_from-held-requires-clause-held_bound : goal.held_from-held-requires-clause-held_bound
held_from-held-requires-clause-held_bound c =
    held_room c.args.station c.loop-i.i c.loop-i.held c.args.points.now c.requires.0 (omega arith) c.loop-i.invariant

pub loop-i-preserved : goal.loop-i-preserved
loop-i-preserved c =
    held_next c.args.station c.loop-i.i c.loop-i.held c.held_from-held.result c.args.points.now past (omega arith) (omega arith) c.loop-i.invariant c.held_from-held.ensures
