-- `lent::join` meets its contract.
-- Assumes nothing.
use mathlib.Core.Path.{ap, ◌∙◌}
use Rattle.std.specs.Prelude.{Option}
use Prim.Native.Nat.{ℕ}
use lib.ListN.{take, replicate}
use Rattle.machine.specs.Events as machine
use Rattle.structs.specs.declared.Event.{Event}
use Rattle.events.specs.Event.{event_from}
use Rattle.alone.specs.Told.{old_named}
use Rattle.lent.proofs.Contexts.{copied}
use Rattle.lent.proofs.join.Goals as goal

pub returns : goal.returns
returns c =
    let a = c.args in
    let n = c.min-len in
    ap (λ (e : Event). event_from e (take n.result c.copy.new.to)) c.join.ensures
    ∙ ap (λ (o : Option ℕ). machine.join a.at a.station.now a.sequence o (take n.result c.copy.new.to)) c.old_named.ensures
    ∙ ap (machine.join a.at a.station.now a.sequence (old_named a.old)) (copied a.context.now (replicate 65 0) c.copy.new.to n.result n.ensures c.copy.ensures)
