-- A script can be played piece by piece, as a caller of `script_runner::play` may play it: cut past a 0A, the pieces print what the whole prints;
-- and of an unfinished line it is enough to keep 256 octets.
-- Assumes nothing.
use Prim.Native.Nat.{ℕ, ◌≤◌, ◌<◌}
use mathlib.Core.Path.{◌≡◌, refl, sym, ◌∙◌}
use mathlib.Core.Bool.{Bool, true, false, cond}
use mathlib.Core.List.{List, [], ◌∷◌, ◌++◌, append_assoc}
use Rattle.std.specs.Prelude.{Option, None, Some}
use native.Mathlib.Omega.{arith}
use borrow.Author.Tests.{lt-ltb}
use lib.Dec.{eqb}
use lib.ListN.{length, take, length-append}
use lib.Seq.{length-take-le}
use Rattle.lists.specs.Options.{case_option}
use Rattle.machine.specs.Events.{Event}
use Rattle.structs.specs.declared.Network.{Network}
use Rattle.network.specs.Events.{event_of, run_of}
use Rattle.script.specs.Text.{on_first, split, lines}
use Rattle.script.specs.EventLine.{said_of, event_in}
use Rattle.script.specs.Result.{unreadable, result_of}
use Rattle.script.specs.Script.{events_in, printed, played}

-- the lines of a piece that ends in 0A, and then those of the rest
pub lines_pieces : (a b : List ℕ) → lines (a ++ (10 ∷ b)) ≡ lines (a ++ (10 ∷ [])) ++ lines b
unfolding split
lines_pieces [] b = refl
lines_pieces (x ∷ a) b = go (eqb x 10) (split 10 [] (a ++ (10 ∷ []))) (ended a) (lines_pieces a b)
  where
    ended : (l : List ℕ) → 0 < length (split 10 [] (l ++ (10 ∷ [])))
    ended [] = omega arith
    ended (y ∷ l) = first (eqb y 10) (split 10 [] (l ++ (10 ∷ [])))
      where
        first : (t : Bool) (r : List (List ℕ)) → 0 < length (cond t ([] ∷ r) (on_first y r))
        first true r = omega arith
        first false [] = unfold on_first in omega arith
        first false (p ∷ ps) = unfold on_first in omega arith

    go : (t : Bool) (r : List (List ℕ)) → 0 < length r → split 10 [] (a ++ (10 ∷ b)) ≡ r ++ lines b
        → cond t ([] ∷ split 10 [] (a ++ (10 ∷ b))) (on_first x (split 10 [] (a ++ (10 ∷ b)))) ≡ cond t ([] ∷ r) (on_first x r) ++ lines b
    go true r h e = rw e
    go false [] h e = absurd (omega (arith, h))
    go false (p ∷ ps) h e = rw e (unfold on_first in refl)

-- what is printed and left, piece by piece

pub played_pieces : (w : Network) (ls ms : List (List ℕ)) → played w (ls ++ ms) ≡ played (played w ls) ms
unfolding played events_in run_of
played_pieces w [] ms = refl
played_pieces w (l ∷ ls) ms = go (event_in l) (λ f. played_pieces f ls ms)
  where
    go : (o : Option Event) → ((f : Network) → run_of f (events_in (ls ++ ms)) ≡ run_of (run_of f (events_in ls)) (events_in ms)) → run_of w (case_option o (events_in (ls ++ ms)) (λ e. e ∷ events_in (ls ++ ms))) ≡ run_of (run_of w (case_option o (events_in ls) (λ e. e ∷ events_in ls))) (events_in ms)
    go None h = h w
    go (Some e) h = h (event_of w e).network

pub printed_pieces : (w : Network) (ls ms : List (List ℕ)) → printed w (ls ++ ms) ≡ printed w ls ++ printed (played w ls) ms
unfolding printed played events_in run_of
printed_pieces w [] ms = refl
printed_pieces w (l ∷ ls) ms = go (event_in l) (λ f. printed_pieces f ls ms)
  where
    go : (o : Option Event) → ((f : Network) → printed f (ls ++ ms) ≡ printed f ls ++ printed (run_of f (events_in ls)) ms)
        → case_option o (unreadable ++ printed w (ls ++ ms)) (λ e. result_of e (event_of w e).line ++ printed (event_of w e).network (ls ++ ms))
        ≡ case_option o (unreadable ++ printed w ls) (λ e. result_of e (event_of w e).line ++ printed (event_of w e).network ls)
        ++ printed (run_of w (case_option o (events_in ls) (λ e. e ∷ events_in ls))) ms
    go None h = rw (h w) (sym (append_assoc unreadable (printed w ls) (printed (run_of w (events_in ls)) ms)))
    go (Some e) h =
        rw (h (event_of w e).network) (sym (append_assoc (result_of e (event_of w e).line) (printed (event_of w e).network ls) (printed (run_of (event_of w e).network (events_in ls)) ms)))

-- an unfinished line of more than 255 octets

long_unreadable : (l : List ℕ) → 255 < length l → event_in l ≡ None
unfolding event_in said_of
long_unreadable l h = rw (lt-ltb 255 (length l) h)

pub kept_unreadable : (l m : List ℕ) → 256 ≤ length l → event_in (take 256 l ++ m) ≡ event_in (l ++ m)
kept_unreadable l m h =
    let a : 255 < length (take 256 l ++ m) = omega (arith, length-append (take 256 l) m, length-take-le 256 l h) in
    let b : 255 < length (l ++ m) = omega (arith, length-append l m, h) in
    long_unreadable (take 256 l ++ m) a ∙ sym (long_unreadable (l ++ m) b)
