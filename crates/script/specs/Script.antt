-- Document 01, "Floor rehearsal": what a whole script prints, and what is proved of its events.
use Rattle.std.specs.Prelude.{ℕ, ◌≡◌, List, [], ◌∷◌, ◌++◌, length}
use Rattle.lists.specs.Options.{case_option}
use Rattle.machine.specs.Events.{Event, step}
use Rattle.machine.specs.History.{World, after, run, begin}
use Rattle.machine.specs.Claim.{Claim}
use Rattle.structs.specs.declared.Network.{Network}
use Rattle.network.specs.Events.{line_of, event_of, run_of}
use Rattle.script.specs.Text.{lines}
use Rattle.script.specs.EventLine.{event_in}
use Rattle.script.specs.SetUpLines.{Values, set_up_in, event_lines}
use Rattle.script.specs.Result.{result_names, bad_set_up, unreadable, result_of}

-- the events of a script's lines: those that can be read
unfoldable pub events_in : List (List ℕ) → List Event
events_in [] = []
events_in (l ∷ ls) = case_option (event_in l) (events_in ls) (λ e. e ∷ events_in ls)

-- what the lines print, one after the other, from the machine's network and its history so far
unfoldable pub printed_by : World → List (List ℕ) → List ℕ
printed_by w [] = []
printed_by w (l ∷ ls) =
    case_option (event_in l) (unreadable ++ printed_by w ls)
    (λ e. result_of e (line_of (step w.network (length w.log) e)) ++ printed_by (after w e) ls)

-- a network just set up
abbrev pub start_of : Values → World
start_of v = begin v.aps v.timeout v.resends

-- "It prints:"
unfoldable pub output_of : List ℕ → List ℕ
output_of s = result_names ++ case_option (set_up_in (lines s)) bad_set_up (λ v. printed_by (start_of v) (event_lines (lines s)))

-- A script s whose set-up v is good: its output is what the machine prints of its lines from the floor just set up, and of the list of their
-- events, run from there, demand 3 holds
pub record ScriptClaim (s : List ℕ) (v : Values) : Type 0 where
  pub text : output_of s ≡ result_names ++ printed_by (start_of v) (event_lines (lines s))
  pub claim : Claim v.resends (run (start_of v) (events_in (event_lines (lines s))))

-- The same on a network's record: what the lines print there, and the record then

unfoldable pub printed : Network → List (List ℕ) → List ℕ
printed w [] = []
printed w (l ∷ ls) =
    case_option (event_in l) (unreadable ++ printed w ls) (λ e. result_of e (event_of w e).line ++ printed (event_of w e).network ls)

unfoldable pub played : Network → List (List ℕ) → Network
played w ls = run_of w (events_in ls)
