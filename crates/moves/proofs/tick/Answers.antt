-- `moves::tick` meets its contract: each move is kept or given up, so that those given up are the others.
-- Assumes nothing.
use Prim.Native.Nat.{ℕ, ◌+◌, ◌-◌}
use mathlib.Core.Path.{◌≡◌, ap, ◌∙◌}
use mathlib.Core.List.{map}
use native.Mathlib.Omega.{arith}
use lib.ListN.{length, length-map}
use Rattle.structs.specs.declared.Moves.{Moves}
use Rattle.machine.specs.Moves.{kept, lapsed}
use Rattle.record.specs.Lens.{named, bare}
use Rattle.structs.specs.Lists.{get_moves, put_moves}
use Rattle.moves.proofs.Laws.{kept_lapsed}
use Rattle.moves.proofs.tick.Goals as goal

-- those kept and those given up are all
all : (t w : Moves) (timeout : ℕ) → w ≡ put_moves t (map bare (kept timeout (map named (get_moves t))))
    → w.count + length (lapsed timeout (map named (get_moves t))) ≡ length (get_moves t)
all t w timeout e =
    let ms = map named (get_moves t) in
    let n : length ms ≡ length (get_moves t) = length-map (get_moves t) named in
    let k : w.count ≡ length (kept timeout ms) = ap (λ (w : Moves). w.count) e ∙ length-map (kept timeout ms) bare in
    omega (arith, kept_lapsed timeout ms)

pub overflow_sub-result : goal.overflow_sub-result
overflow_sub-result c = omega (arith, all c.args.t.now c.kept_of-kept.result c.args.timeout c.kept_of-kept.ensures, ap length c.used.ensures.elements)

pub returns : goal.returns
returns c =
    let e : length c.used.result.now - c.kept_of-kept.result.count ≡ length (lapsed c.args.timeout (map named (get_moves c.args.t.now))) =
    omega (arith, all c.args.t.now c.kept_of-kept.result c.args.timeout c.kept_of-kept.ensures, ap length c.used.ensures.elements) in
    λ i. record { kept = c.kept_of-kept.ensures i; due = c.due_of-due.ensures i; given_up = e i }
