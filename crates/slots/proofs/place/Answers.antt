-- `place` meets its contract: by whether element i is there.
-- Assumes nothing.
use mathlib.Core.Path.{ap, sym, ◌∙◌}
use Prim.Native.Nat.{ℕ}
use mathlib.Core.List.{List}
use native.Mathlib.Omega.{arith}
use lib.ListN.{take, set}
use Rattle.slots.specs.Lists.{over}
use Rattle.slots.proofs.Over.{pushed, replaced, placed_last}
use Rattle.slots.proofs.Laws.{count_in, count_last, length_used}
use Rattle.slots.proofs.place.Goals as goal

pub returns-then-i-count-clause-items : goal.returns-then-i-count-clause-items
returns-then-i-count-clause-items g c =
    let n = c.args.count.now in
    let xs = c.args.items.now in
    let x = c.args.x in
    ap (λ (k : ℕ). set xs k x) (omega arith)
    ∙ pushed g.T.Blank.blank n xs x (omega arith)
    ∙ ap (λ (l : List g.row.T.Denot). over g.T.Blank.blank n l xs) (sym (placed_last c.args.i x (take n xs) (omega (arith, length_used n xs (omega arith)))))

pub returns-then-i-count-clause-count : goal.returns-then-i-count-clause-count
returns-then-i-count-clause-count g c = count_last c.args.count.now c.args.items.now (omega arith) c.args.i c.args.x (omega arith)

pub returns-else-i-count-clause-items : goal.returns-else-i-count-clause-items
returns-else-i-count-clause-items g c = replaced g.T.Blank.blank c.args.count.now c.args.i c.args.x c.args.items.now (omega arith) (omega arith)

pub returns-else-i-count-clause-count : goal.returns-else-i-count-clause-count
returns-else-i-count-clause-count g c = count_in c.args.count.now c.args.items.now (omega arith) c.args.i c.args.x (omega arith)
