-- Demand 3 of the code: what is proved of every sequence of calls from a network just set up.
use Rattle.std.specs.Prelude.{ℕ, ◌≡◌, List, [], ◌∷◌, map, reverse, length, Result}
use Rattle.answers.specs.declared.Refusal.{Refusal}
use Rattle.machine.specs.Events.{Event, Formed, step}
use Rattle.machine.specs.History.{run, begin}
use Rattle.machine.specs.Joins.{Answered, answers_of}
use Rattle.machine.specs.Claim.{Claim}
use Rattle.structs.specs.declared.Network.{Network}
use Rattle.network.specs.Lens.{put, new_network}
use Rattle.network.specs.Events.{Line, line_of, event_of}
use Rattle.network.specs.Clean.{Clean}
use Rattle.network.specs.Demand.{entry_line, entry_network}
use Rattle.floor_link.specs.declared.Reply.{Reply}
use Rattle.floor_link.specs.Answered.{told_line, network_after, reply_from}

-- The replies to a list of calls, one after the other: each call is given the record that the one before left, "refused or not", and its
-- reply is what the entry point promises of that record and event
abbrev pub Calls : Network → List Event → List (Result Reply Refusal) → Type 0
Calls w [] [] = Unit {0}
Calls w [] (r ∷ rs) = ⊥
Calls w (e ∷ es) [] = ⊥
Calls w (e ∷ es) (r ∷ rs) = (reply_from w r ≡ event_of w e) × Calls (network_after w r) es rs

-- the record that the last call left
unfoldable pub last_of : Network → List (Result Reply Refusal) → Network
last_of w [] = w
last_of w (r ∷ rs) = last_of (network_after w r) rs

-- what the calls answered, in document 01's numbers
unfoldable pub lines_from : List (Result Reply Refusal) → List Line
lines_from [] = []
lines_from (r ∷ rs) = told_line r ∷ lines_from rs

-- "the floor after each event": the record that each call left
unfoldable pub networks_from : Network → List (Result Reply Refusal) → List Network
networks_from w [] = []
networks_from w (r ∷ rs) = network_after w r ∷ networks_from (network_after w r) rs

-- each event and its ANSWER
unfoldable pub answered_from : List Event → List (Result Reply Refusal) → List Answered
answered_from [] rs = []
answered_from (e ∷ es) [] = []
answered_from (e ∷ es) (r ∷ rs) = (e, (told_line r).answer) ∷ answered_from es rs

-- n APs, T = t, R = r, the list of events and the replies to the calls
pub record Delivered (n t r : ℕ) (es : List Event) (rs : List (Result Reply Refusal)) : Type 0 where
  -- demand 3, of the machine's run of the list
  pub claim : Claim r (run (begin n t r) es)
  -- ANSWER, SENT, GIVENUP, HELD and TABLES of each call are those of that run, whose history has the latest first
  pub lines : reverse (lines_from rs) ≡ map entry_line (run (begin n t r) es).log
  -- so the accepted joins and the leaves that the claim speaks of are those of the calls' own answers
  pub answers : reverse (answered_from es rs) ≡ answers_of (run (begin n t r) es).log
  -- after each call the record holds the machine's network, which that entry of the history has
  pub floors : reverse (networks_from (new_network n t r) rs) ≡ map (entry_network (new_network n t r)) (run (begin n t r) es).log
  -- and so after the last one, and nothing is left behind in its unused parts
  pub network : last_of (new_network n t r) rs ≡ put (new_network n t r) (run (begin n t r) es).network
  pub clean : Clean (last_of (new_network n t r) rs)
  -- and so for any next call, as a who that tells where a station stands
  pub next : (e : Event) → Formed e → (x : Result Reply Refusal) → reply_from (last_of (new_network n t r) rs) x ≡ event_of (last_of (new_network n t r) rs) e
      → told_line x ≡ line_of (step (run (begin n t r) es).network (length (run (begin n t r) es).log) e)
