-- Document 01, "The list and the words of demand 3": the accepted joins of a station, and where it has left since. They are read off
-- the events and their answers alone.
use Rattle.std.specs.Prelude.{ℕ, Bool, false, cond, ◌&&◌, ◌||◌, List, [], ◌∷◌, eqb, length}
use Rattle.std.specs.Prelude.{Option}
use Rattle.machine.specs.Stations.{Station, same}
use Rattle.machine.specs.Events.{Event, join, leave, deliver, repeat, lose, tick, who}
use Rattle.machine.specs.History.{Entry}

-- an event and its ANSWER
abbrev pub Answered : Type 0
Answered = Event × ℕ

unfoldable pub answers_of : List Entry → List Answered
answers_of [] = []
answers_of (x ∷ xs) = (x.event, x.outcome.answer) ∷ answers_of xs

-- an accepted join: its AP, sequence number and old AP, and its place in the list
pub record Join : Type 0 where
  pub at : ℕ
  pub sequence : ℕ
  pub old : Option ℕ
  pub place : ℕ

-- "A join is accepted when its ANSWER is 0": js, and first the event at the place p if it is an accepted join of s
unfoldable pub joins_with : Station → Event → ℕ → ℕ → List Join → List Join
joins_with s (join b t n old c) a p js = cond (same s t && eqb a 0) (record { at = b; sequence = n; old = old; place = p } ∷ js) js
joins_with s (leave b t) a p js = js
joins_with s (deliver k) a p js = js
joins_with s (repeat k) a p js = js
joins_with s (lose k) a p js = js
joins_with s (tick b) a p js = js
joins_with s (who t) a p js = js

-- the accepted joins of s, the latest first
unfoldable pub joins_of : Station → List Answered → List Join
joins_of s [] = []
joins_of s (x ∷ xs) = joins_with s x.0 x.1 (length xs) (joins_of s xs)

-- "A station has left there since when a leave after that join, with the same AP and station, has ANSWER 0."
unfoldable pub left_with : Station → ℕ → Event → ℕ → Bool → Bool
left_with s b (join c t n old x) a l = cond (same s t && eqb a 0) false l
left_with s b (leave c t) a l = (same s t && eqb b c && eqb a 0) || l
left_with s b (deliver k) a l = l
left_with s b (repeat k) a l = l
left_with s b (lose k) a l = l
left_with s b (tick c) a l = l
left_with s b (who t) a l = l

-- whether s has left AP b since its last accepted join
unfoldable pub left : Station → List Answered → ℕ → Bool
left s [] b = false
left s (x ∷ xs) b = left_with s b x.0 x.1 (left s xs b)
