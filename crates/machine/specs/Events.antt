-- Document 01, "The floor machine": the seven events, their refusals, and what an event answers and does to the network.
use Rattle.std.specs.Prelude.{ℕ, zero, suc, ◌+◌, ◌*◌, ◌/◌, ◌%◌, ◌<◌, ◌≡◌, Bool, cond, not, List, [], ◌∷◌, ltb, length, is_some}
use Rattle.std.specs.Prelude.{Option}
use Rattle.lists.specs.Table.{Test, first_of, accepts}
use Rattle.lists.specs.Options.{case_option}
use Rattle.lists.specs.Places.{nth, without, All}
use Rattle.structs.specs.declared.InFlight.{InFlight}
use Rattle.machine.specs.Stations.{Station, is_group}
use Rattle.machine.specs.Associations.{sequence_of}
use Rattle.machine.specs.Packets.{octets_in, packet_in}
use Rattle.machine.specs.Moves.{Happened, nothing}
use Rattle.machine.specs.AccessPoint.{AccessPoint, Action, origin_of, join_tests, join_from, leave_by, tick_by, receive}
use Rattle.machine.specs.Network.{Network, access_point_at, set_point, set_in_flight, send_all}

-- "The seven events"
pub data Event : Type 0 where
  -- "join (AP, station, sequence n, old AP or none, context)"
  join : ℕ → Station → ℕ → Option ℕ → List ℕ → Event
  -- "leave (AP, station)"
  leave : ℕ → Station → Event
  -- "deliver k", "repeat k", "lose k"
  deliver : ℕ → Event
  repeat : ℕ → Event
  lose : ℕ → Event
  -- "tick (AP)"
  tick : ℕ → Event
  -- "who (station)"
  who : Station → Event

-- What the types of a call grant of an event's arguments: a station is six octets, and a context is octets. Nothing else is asked.
abbrev pub Octet : ℕ → Type 0
Octet x = x < 256

pub record StationIn (s : Station) : Type 0 where
  pub size : length s ≡ 6
  pub octets : All Octet s

abbrev pub Formed : Event → Type 0
Formed (join b s n old c) = StationIn s × All Octet c
Formed (leave b s) = Unit {0}
Formed (deliver k) = Unit {0}
Formed (repeat k) = Unit {0}
Formed (lose k) = Unit {0}
Formed (tick b) = Unit {0}
Formed (who s) = Unit {0}

-- Refusals, "Whoever gives an event". The first that applies decides.

-- "11: AP number not on the floor"
unfoldable pub unknown_point : Network → ℕ → Test
unknown_point f b = (not (ltb b (length f.points)), 11)

-- "12: no such packet in the air (deliver, repeat, lose)"
unfoldable pub unknown_packet : Network → ℕ → Test
unknown_packet f k = (not (ltb k (length f.in_flight)), 12)

-- "13: station's first octet odd (join, leave, who)"
unfoldable pub group_address : Station → Test
group_address s = (is_group s, 13)

unfoldable pub event_tests : Network → Event → List Test
-- "join: 11, 13, 7, 9, then 15 ..; 16 ..; 17 ..": the last three are the AP's own
event_tests f (join b s n old c) =
    unknown_point f b
    ∷ group_address s
    ∷ (ltb 4095 n, 7)
    ∷ (ltb 64 (length c), 9)
    ∷ join_tests (origin_of (length f.points) b old) s n (access_point_at f b)
-- "leave: 11, 13"
event_tests f (leave b s) = unknown_point f b ∷ group_address s ∷ []
-- 12
event_tests f (deliver k) = unknown_packet f k ∷ []
event_tests f (repeat k) = unknown_packet f k ∷ []
event_tests f (lose k) = unknown_packet f k ∷ []
-- 11
event_tests f (tick b) = unknown_point f b ∷ []
-- 13
event_tests f (who s) = group_address s ∷ []

unfoldable pub refusal : Network → Event → ℕ
refusal f e = first_of (event_tests f e)

-- What an event answers, and the network after it. `at` and `happened` say what it did to the moves of which access point;
-- they are for the history alone.
pub record Outcome : Type 0 where
  pub answer : ℕ
  pub sent : ℕ
  pub at : ℕ
  pub happened : Happened
  pub held : ℕ
  pub tables : ℕ
  pub network : Network

-- "SENT and GIVENUP count this event"
unfoldable pub given_up_count : Outcome → ℕ
given_up_count o = length o.happened.given_up

-- nothing sent, and nothing happened to a move
unfoldable pub quiet : ℕ → Network → Outcome
quiet a f = record { answer = a; sent = 0; at = 0; happened = nothing; held = 0; tables = 0; network = f }

-- the access point b acts: its record is replaced, and its packets are sent one by one
unfoldable pub act : ℕ → Action → Network → Outcome
act b x f =
    record {
      answer = 0;
      sent = length x.sends;
      at = b;
      happened = x.happened;
      held = 0;
      tables = 0;
      network = send_all b x.sends (set_point b x.point f);
    }

-- the receiver of a packet in flight acts on what the reader takes it for. In a record that is not refused with 14 the reader
-- refuses no packet.
unfoldable pub receive_frame : InFlight → Network → Outcome
receive_frame w f =
    case_option (packet_in (octets_in w)) (quiet 0 f) (λ p. act w.to (receive w.from p (access_point_at f w.to)) f)

-- the same for packet k of ws
unfoldable pub receive_at : ℕ → List InFlight → Network → Outcome
receive_at k ws f = case_option (nth k ws) (quiet 0 f) (λ w. receive_frame w f)

unfoldable pub holds : Station → AccessPoint → Bool
holds s a = is_some (sequence_of s a.associations)

-- "HELD, where bit i is set if AP i has a row"
unfoldable pub held_by : Station → List AccessPoint → ℕ
held_by s [] = 0
held_by s (a ∷ more) = cond (holds s a) 1 0 + 2 * held_by s more

-- "TABLES counts the ones in HELD": of k bits
unfoldable pub ones_in : ℕ → ℕ → ℕ
ones_in zero h = 0
ones_in (suc k) h = h % 2 + ones_in k (h / 2)

-- an accepted event at the place `name` of the list
unfoldable pub accepted : Network → ℕ → Event → Outcome
accepted f name (join b s n old c) =
    act b (join_from (origin_of (length f.points) b old) (length f.points) f.timeout f.resend_limit name b s n c (access_point_at f b)) f
accepted f name (leave b s) = act b (leave_by s (access_point_at f b)) f
-- "packet k is taken out, the later ones move up, then the receiver acts"
accepted f name (deliver k) = receive_at k f.in_flight (set_in_flight (without k f.in_flight) f)
-- "the receiver acts, k stays"
accepted f name (repeat k) = receive_at k f.in_flight f
-- "k is taken out"
accepted f name (lose k) = quiet 0 (set_in_flight (without k f.in_flight) f)
accepted f name (tick b) = act b (tick_by f.timeout (access_point_at f b)) f
accepted f name (who s) =
    record {
      answer = 0;
      sent = 0;
      at = 0;
      happened = nothing;
      held = held_by s f.points;
      tables = ones_in (length f.points) (held_by s f.points);
      network = f;
    }

-- An event at the place `name` of the list. "A refusal returns its number, every other number of the answer 0 .., sends 0, and
-- changes neither record nor buffer."
unfoldable pub step : Network → ℕ → Event → Outcome
step f name e = cond (accepts (refusal f e)) (accepted f name e) (quiet (refusal f e) f)
