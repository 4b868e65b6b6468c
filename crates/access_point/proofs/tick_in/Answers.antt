-- `access_point::tick_in` meets its contract: what the moves' tick leaves is the machine's.
-- Assumes nothing.
use Rattle.std.proofs.Common.{refl, ap, arith}
use Rattle.record.proofs.LensLaws.{Fits}
use Rattle.moves.specs.declared.Ticked.{Ticked}
use Rattle.access_point.proofs.Ticks.{due_few, ticked}
use Rattle.access_point.proofs.tick_in.Goals as goal

pub overflow_cast-a : goal.overflow_cast-a
overflow_cast-a c =
    let a = c.args.a.now in
    let z : Fits a = record { associations = c.requires.rows; moves = c.requires.moves } in
    omega (arith, due_few c.args.timeout a _ z c.requires.usable.moves (ap (λ (r : Ticked). r.due) c.tick-t.ensures))

pub returns : goal.returns
returns c =
    let a = c.args.a.now in
    let z : Fits a = record { associations = c.requires.rows; moves = c.requires.moves } in
    let e = c.tick-t.ensures in
    ticked c.args.timeout a z _ _ _ (ap (λ (r : Ticked). r.kept) e) (ap (λ (r : Ticked). r.due) e) (ap (λ (r : Ticked). r.given_up) e) _ _ (omega arith) (omega arith) refl refl
