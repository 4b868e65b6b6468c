-- What is proved of every list of events on the record of a network just set up with n APs, T = t and R = r: document 01's demand 3 of
-- the machine's history, the same answers, and the same network.
use Rattle.std.specs.Prelude.{ℕ, ◌≡◌, List, [], ◌∷◌, map, reverse, length}
use Rattle.machine.specs.Events.{Event, Formed, step}
use Rattle.machine.specs.History.{Entry, after, run, begin}
use Rattle.machine.specs.Joins.{Answered, answers_of}
use Rattle.machine.specs.Claim.{Claim}
use Rattle.structs.specs.declared.Network.{Network}
use Rattle.network.specs.Lens.{put, new_network}
use Rattle.network.specs.Events.{Line, line_of, event_of, run_of, lines_of}

-- what an entry of the machine's history answered
unfoldable pub entry_line : Entry → Line
entry_line x = line_of x.outcome

-- the floor after an entry of the machine's history, put into the record w
unfoldable pub entry_network : Network → Entry → Network
entry_network w x = put w x.outcome.network

-- "the floor after each event": the record that each event of a list leaves, in order
unfoldable pub networks_of : Network → List Event → List Network
networks_of w [] = []
networks_of w (e ∷ es) = (event_of w e).network ∷ networks_of (event_of w e).network es

-- each event of a list and its ANSWER, in order
unfoldable pub answered_of : Network → List Event → List Answered
answered_of w [] = []
answered_of w (e ∷ es) = (e, (event_of w e).line.answer) ∷ answered_of (event_of w e).network es

pub record Demand (n t r : ℕ) (es : List Event) : Type 0 where
  -- demand 3, of the machine's run of the list
  pub claim : Claim r (run (begin n t r) es)
  -- each event on the record answers what it answers in that run, whose history has the latest first
  pub lines : reverse (lines_of (new_network n t r) es) ≡ map entry_line (run (begin n t r) es).log
  -- so the accepted joins and the leaves that the claim speaks of are those of the record's own answers
  pub answers : reverse (answered_of (new_network n t r) es) ≡ answers_of (run (begin n t r) es).log
  -- after each event the record holds the machine's network, which that entry of the history has
  pub floors : reverse (networks_of (new_network n t r) es) ≡ map (entry_network (new_network n t r)) (run (begin n t r) es).log
  -- and so after the last one
  pub network : run_of (new_network n t r) es ≡ put (new_network n t r) (run (begin n t r) es).network
  -- and so for any next event, as a who that tells where a station stands
  pub next : (e : Event) → Formed e
      → event_of (run_of (new_network n t r) es) e
      ≡ record {
        line = line_of (step (run (begin n t r) es).network (length (run (begin n t r) es).log) e);
        network = put (new_network n t r) (after (run (begin n t r) es) e).network;
      }
