-- What is printed into a lent buffer: the lines of a script, and a whole script.
use Rattle.std.specs.Prelude.{ℕ, cond, List, ltb, length, Option, None, Some, Result, Ok, Err}
use Rattle.lists.specs.Options.{case_option}
use Rattle.answers.specs.declared.Refusal.{Refusal}
use Rattle.answers.specs.Numbers.{refusal_number}
use Rattle.structs.specs.declared.Network.{Network}
use Rattle.network.specs.Events.{event_of}
use Rattle.script.specs.EventLine.{event_in}
use Rattle.script.specs.Put.{front}
use Rattle.script.specs.Result.{unreadable, result_of}
use Rattle.script.specs.Script.{output_of, printed, played}
use Rattle.script_runner.specs.declared.Played.{Played}

-- One line on the record w: what it prints, and the record after it

abbrev pub text_in : Network → List ℕ → List ℕ
text_in w l = case_option (event_in l) unreadable (λ e. result_of e (event_of w e).line)

abbrev pub after_line : Network → List ℕ → Network
after_line w l = case_option (event_in l) w (λ e. (event_of w e).network)

-- The lines of events on the record w: the record after them, and the length of what they print

abbrev pub played_as : Network → List (List ℕ) → Played
played_as w ls = record { network = played w ls; len = length (printed w ls) }

-- only where that fits n octets
unfoldable pub measured : Network → List (List ℕ) → ℕ → Option Played
measured w ls n = cond (ltb n (length (printed w ls))) None (Some (played_as w ls))

-- A whole script: the answer, the length and the buffer

pub record Rehearsed : Type 0 where
  pub answer : ℕ
  pub len : ℕ
  pub buffer : List ℕ

-- the length of the output, or the refusal
abbrev pub rehearsed_from : Result ℕ Refusal → List ℕ → Rehearsed
rehearsed_from (Ok n) b = record { answer = 0; len = n; buffer = b }
rehearsed_from (Err r) b = record { answer = refusal_number r; len = 0; buffer = b }

-- a text put at the front of the buffer: 10 where the buffer is shorter than it, and then as it came
unfoldable pub written_into : List ℕ → List ℕ → Rehearsed
written_into t b =
    cond (ltb (length b) (length t))
    (record { answer = 10; len = 0; buffer = b })
    (record { answer = 0; len = length t; buffer = front t b })

-- what a script prints
abbrev pub rehearsed_into : List ℕ → List ℕ → Rehearsed
rehearsed_into s b = written_into (output_of s) b
