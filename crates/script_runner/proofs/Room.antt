-- How long what a script's lines print can be: at most 32 octets for each octet of the script.
-- Assumes nothing.
use Prim.Native.Nat.{ℕ, ◌*◌, ◌≤◌}
use mathlib.Core.Bool.{Bool, true, false, cond}
use mathlib.Core.List.{List, [], ◌∷◌}
use native.Mathlib.Omega.{arith}
use lib.Dec.{eqb}
use lib.ListN.{length, length-append}
use Rattle.lists.proofs.Choices.{by_option}
use Rattle.machine.specs.Events.{Event}
use Rattle.structs.specs.declared.Network.{Network}
use Rattle.network.specs.Events.{event_of}
use Rattle.script.specs.Text.{on_first, split, lines}
use Rattle.script.specs.EventLine.{event_in}
use Rattle.script.specs.Result.{unreadable, kind_of, result_of}
use Rattle.script.specs.Script.{printed}
use Rattle.script_writer.proofs.Short.{result_short}

-- no more lines than octets
lines_few : (s : List ℕ) → length (lines s) ≤ length s
unfolding split
lines_few [] = omega arith
lines_few (x ∷ xs) = go (eqb x 10) (split 10 [] xs) (lines_few xs)
  where
    go : (b : Bool) (r : List (List ℕ)) → length r ≤ length xs → length (cond b ([] ∷ r) (on_first x r)) ≤ length (x ∷ xs)
    go true r h = omega arith
    go false [] h = unfold on_first in omega arith
    go false (p ∷ ps) h = unfold on_first in omega arith

pub unreadable_short : length unreadable ≤ 32
unfolding unreadable
unreadable_short = omega arith

pub result_of_short : (e : Event) (w : Network) → length (result_of e (event_of w e).line) ≤ 32
unfolding result_of
result_of_short e w = omega (arith, result_short (kind_of e) (event_of w e).line)

lines_short : (w : Network) (ls : List (List ℕ)) → length (printed w ls) ≤ 32 * length ls
unfolding printed
lines_short w [] = omega arith
lines_short w (l ∷ ls) =
    by_option (λ (t : List ℕ). length t ≤ 32 * length (l ∷ ls)) (event_in l)
    (λ q. omega (arith, length-append unreadable (printed w ls), unreadable_short, lines_short w ls))
    (λ e q. omega (arith, length-append (result_of e (event_of w e).line) (printed (event_of w e).network ls), result_of_short e w, lines_short (event_of w e).network ls))

pub printed_short : (w : Network) (s : List ℕ) → length (printed w (lines s)) ≤ 32 * length s
printed_short w s = omega (arith, lines_short w (lines s), lines_few s)
