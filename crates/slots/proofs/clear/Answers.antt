-- `clear` meets its contract. The loop's invariant: the slots passed are blank, and the others are as they were.
-- Assumes nothing.
use mathlib.Core.Path.{◌≡◌, ap, ◌∙◌}
use mathlib.Core.List.{List, [], append-nil}
use native.Mathlib.Omega.{arith}
use lib.ListN.{drop, set, take, length, drop_of_length-le}
use lib.Seq.{length-take-le}
use Rattle.slots.proofs.Over.{blank_more, cleared}
use Rattle.slots.proofs.clear.Goals as goal

pub loop-slot-preserved : goal.loop-slot-preserved
loop-slot-preserved g c =
    let n = c.args.count.now in
    let i = c.loop-slot.slot-index in
    rw c.blank.ensures
    (ap (λ (l : List g.row.T.Denot). set l i g.T.Blank.blank) c.loop-slot.invariant
    ∙ blank_more g.T.Blank.blank (take n c.args.items.now) i c.loop-slot-test.true)

pub returns-clause-items : goal.returns-clause-items
returns-clause-items g c =
    let n = c.args.count.now in
    let xs = c.args.items.now in
    let m : length (take n xs) ≡ n = length-take-le n xs (omega arith) in
    let e : c.loop-slot.slot-index ≡ n = omega arith in
    let z : drop n (take n xs) ≡ [] = drop_of_length-le (take n xs) (omega arith) in
    rw (c.loop-slot.invariant, e, z, append-nil) (cleared g.T.Blank.blank n xs)
