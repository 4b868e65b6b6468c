-- `vectors::prints` meets its contract: what was printed is the script's output, and it was found the same.
-- Assumes nothing.
use Rattle.std.proofs.Common.{Ok, refl, sym, ◌∙◌}
use lib.Seq.{length-take-le}
use Rattle.script.specs.Script.{output_of}
use Rattle.script_runner.specs.Played.{rehearsed_from}
use Rattle.vectors.proofs.Placed.{placed}
use Rattle.vectors.proofs.prints.Goals as goal

pub slice_bounds-same_text-end : goal.slice_bounds-same_text-end
slice_bounds-same_text-end g c =
    (placed (output_of c.args.script.now) c.args.out.now (rehearsed_from (Ok c.in-Ok.n) c.rehearse.new.out) c.in-Ok.ensures refl).0

pub slice_bounds-same_text-end-in-Ok : goal.slice_bounds-same_text-end-in-Ok
slice_bounds-same_text-end-in-Ok g c =
    sym (length-take-le c.in-Ok.n c.rehearse.new.out (placed (output_of c.args.script.now) c.args.out.now (rehearsed_from (Ok c.in-Ok.n) c.rehearse.new.out) c.in-Ok.ensures refl).0)

pub returns-in-Ok : goal.returns-in-Ok
returns-in-Ok g c =
    λ q. sym (placed (output_of c.args.script.now) c.args.out.now (rehearsed_from (Ok c.in-Ok.n) c.rehearse.new.out) c.in-Ok.ensures refl).1 ∙ c.same_text.ensures q
