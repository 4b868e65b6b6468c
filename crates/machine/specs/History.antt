-- Document 01, "The list and the words of demand 3": a list of events from a network just set up, and its history.
use Rattle.std.specs.Prelude.{ℕ, ◌+◌, Bool, false, cond, ◌&&◌, ◌||◌, List, [], ◌∷◌, eqb, length}
use Rattle.machine.specs.Stations.{Station, same}
use Rattle.machine.specs.Moves.{Open}
use Rattle.machine.specs.Network.{Network, new_network}
use Rattle.machine.specs.Events.{Event, Outcome, step}

-- an event and what it answered and did
pub record Entry : Type 0 where
  pub event : Event
  pub outcome : Outcome

-- a network, and its history: the entries of the list so far, the latest first
pub record World : Type 0 where
  pub network : Network
  pub log : List Entry

-- "Each event .. gets the floor as the event before left it, refused or not". A move that it opens is "named by the place in the
-- list of the event that opened it".
unfoldable pub after : World → Event → World
after w e =
    record {
      network = (step w.network (length w.log) e).network;
      log = record { event = e; outcome = step w.network (length w.log) e } ∷ w.log;
    }

unfoldable pub run : World → List Event → World
run w [] = w
run w (e ∷ es) = run (after w e) es

-- "The list starts at a floor just set up"
unfoldable pub begin : ℕ → ℕ → ℕ → World
begin n t r = record { network = new_network n t r; log = [] }

-- Moves, as the entries tell of them

-- how often a name occurs
unfoldable pub times_in : ℕ → List Open → ℕ
times_in p [] = 0
times_in p (m ∷ ms) = cond (eqb p m.name) (1 + times_in p ms) (times_in p ms)

-- "A move's notice .. is sent by the event that opens the move, and again by each tick that resends it, also where a full air
-- loses it. What repeat hands over isn't thereby sent again": how often that of the move named p was sent
unfoldable pub sends_of : ℕ → List Entry → ℕ
sends_of p [] = 0
sends_of p (x ∷ xs) = times_in p x.outcome.happened.opened + times_in p x.outcome.happened.resent + sends_of p xs

-- "A move belongs to the station that it holds": whether one of these belongs to s
unfoldable pub among : Station → List Open → Bool
among s [] = false
among s (m ∷ ms) = same s m.move.station || among s ms

-- "It is open from that event until it closes, as answered or as given up": how often the move named p has closed
unfoldable pub closes_of : ℕ → List Entry → ℕ
closes_of p [] = 0
closes_of p (x ∷ xs) = times_in p x.outcome.happened.answered + times_in p x.outcome.happened.given_up + closes_of p xs

-- whether one of these moves belongs to s and has not closed
unfoldable pub open_among : Station → List Entry → List Open → Bool
open_among s log [] = false
open_among s log (m ∷ ms) = (same s m.move.station && eqb (closes_of m.name log) 0) || open_among s log ms

-- whether one of those that these entries opened does
unfoldable pub open_since : Station → List Entry → List Entry → Bool
open_since s log [] = false
open_since s log (x ∷ xs) = open_among s log x.outcome.happened.opened || open_since s log xs

-- whether a move of s is open
unfoldable pub is_open : Station → List Entry → Bool
is_open s log = open_since s log log

-- "Once a tick has given it up, it was given up for the rest of the list": whether a move of s was
unfoldable pub was_given_up : Station → List Entry → Bool
was_given_up s [] = false
was_given_up s (x ∷ xs) = among s x.outcome.happened.given_up || was_given_up s xs
