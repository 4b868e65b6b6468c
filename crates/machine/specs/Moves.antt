-- The open moves of one access point. Document 01: "A move holds station, sequence, old AP, identifier, ticks left (1..65535),
-- resends left (0..7)."
use Rattle.std.specs.Prelude.{ℕ, ◌+◌, ◌-◌, ◌%◌, ◌^◌, Bool, cond, ◌&&◌, List, [], ◌∷◌, ltb, eqb}
use Rattle.std.specs.Prelude.{Option, None, Some}
use Rattle.structs.specs.declared.Move.{Move}
use Rattle.machine.specs.Stations.{Station, same}
use Rattle.machine.specs.Packets.{Packet, Outgoing, move_notify}

-- An open move, and its name: the place in the list of the event that opened it. No rule reads the name.
pub record Open : Type 0 where
  pub move : Move
  pub name : ℕ

-- What an event does to the moves of one access point: those that it opened, sent again, closed as answered and closed as
-- given up.
pub record Happened : Type 0 where
  pub opened : List Open
  pub resent : List Open
  pub answered : List Open
  pub given_up : List Open

unfoldable pub nothing : Happened
nothing = record { opened = []; resent = []; answered = []; given_up = [] }

-- "four counts: opened, resent, answered, given up"
pub record Counts : Type 0 where
  pub opened : ℕ
  pub resent : ℕ
  pub answered : ℕ
  pub given_up : ℕ

-- one more for each, "modulo 4294967296"
unfoldable pub counted : ℕ → List Open → ℕ
counted c [] = c
counted c (m ∷ ms) = counted ((c + 1) % 2 ^ 32) ms

unfoldable pub counts_after : Happened → Counts → Counts
counts_after h c =
    record {
      opened = counted c.opened h.opened;
      resent = counted c.resent h.resent;
      answered = counted c.answered h.answered;
      given_up = counted c.given_up h.given_up;
    }

-- opening

-- a move of s with number n towards the access point o, with an identifier, T and R
unfoldable pub new_move : ℕ → Station → ℕ → ℕ → ℕ → ℕ → ℕ → Open
new_move name s n o i t r =
    record {
      move = record { station = s; sequence = n; old = o; identifier = i; ticks_left = t; resends_left = r };
      name = name;
    }

unfoldable pub opening : Open → Happened
opening m = record { opened = m ∷ []; resent = []; answered = []; given_up = [] }

-- the notice of a move: its MOVE-notify, which goes to the old access point
unfoldable pub notice_of : Open → Outgoing
notice_of m =
    record {
      to = m.move.old;
      packet = record { identifier = m.move.identifier; station = m.move.station; sequence = m.move.sequence; message = move_notify };
    }

unfoldable pub notices_of : List Open → List Outgoing
notices_of [] = []
notices_of (m ∷ ms) = notice_of m ∷ notices_of ms

-- answered

-- a packet from an access point "agrees in identifier, station, n and old AP = sender"
unfoldable pub agrees : ℕ → Packet → Move → Bool
agrees from p m = eqb p.identifier m.identifier && same p.station m.station && eqb p.sequence m.sequence && eqb from m.old

-- "the earliest opened move that agrees"
unfoldable pub earliest : ℕ → Packet → List Open → Option Open
earliest from p [] = None
earliest from p (m ∷ ms) = cond (agrees from p m.move) (Some m) (earliest from p ms)

-- the moves without it
unfoldable pub close : ℕ → Packet → List Open → List Open
close from p [] = []
close from p (m ∷ ms) = cond (agrees from p m.move) ms (m ∷ close from p ms)

unfoldable pub answering : Open → Happened
answering m = record { opened = []; resent = []; answered = m ∷ []; given_up = [] }

-- tick

-- the same move with ticks and resends left anew
unfoldable pub timed : Open → ℕ → ℕ → Open
timed m t r =
    record {
      move = record { station = m.move.station; sequence = m.move.sequence; old = m.move.old; identifier = m.move.identifier; ticks_left = t; resends_left = r };
      name = m.name;
    }

pub data Fate : Type 0 where
  waits : Open → Fate
  again : Open → Fate
  lapses : Fate

-- "each open move in order loses one tick; at 0 it is sent again with the same bytes if resends are left (one fewer, ticks T),
-- else it closes as given up"
unfoldable pub fate : ℕ → Open → Fate
fate t m =
    cond (ltb 1 m.move.ticks_left) (waits (timed m (m.move.ticks_left - 1) m.move.resends_left))
    (cond (ltb 0 m.move.resends_left) (again (timed m t (m.move.resends_left - 1))) lapses)

-- the moves that a tick leaves open
unfoldable pub kept_from : Fate → List Open → List Open
kept_from (waits m) ms = m ∷ ms
kept_from (again m) ms = m ∷ ms
kept_from lapses ms = ms

unfoldable pub kept : ℕ → List Open → List Open
kept t [] = []
kept t (m ∷ ms) = kept_from (fate t m) (kept t ms)

-- those that it sends again
unfoldable pub resent_by : Fate → List Open → List Open
resent_by (waits m) ms = ms
resent_by (again m) ms = m ∷ ms
resent_by lapses ms = ms

unfoldable pub resends : ℕ → List Open → List Open
resends t [] = []
resends t (m ∷ ms) = resent_by (fate t m) (resends t ms)

-- those that it gives up
unfoldable pub lapsed_by : Fate → Open → List Open → List Open
lapsed_by (waits x) m ms = ms
lapsed_by (again x) m ms = ms
lapsed_by lapses m ms = m ∷ ms

unfoldable pub lapsed : ℕ → List Open → List Open
lapsed t [] = []
lapsed t (m ∷ ms) = lapsed_by (fate t m) m (lapsed t ms)

unfoldable pub ticking : ℕ → List Open → Happened
ticking t ms = record { opened = []; resent = resends t ms; answered = []; given_up = lapsed t ms }
