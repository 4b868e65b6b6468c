-- An event taken apart, so that whoever holds a network stores what changes and copies nothing else: the packet that it is about, the
-- access point that acts, what that does, and what is stored then. `performed` (proofs/Performed.antt) says that this is the machine's step.
use Rattle.std.specs.Prelude.{ℕ, Bool, false, cond, List, ltb, set}
use Rattle.std.specs.Prelude.{Option}
use Rattle.std.specs.Int.Count.{ones}
use Rattle.lists.specs.Places.{without}
use Rattle.structs.specs.declared.InFlight.{InFlight}
use Rattle.machine.specs.Stations.{Station, is_group}
use Rattle.structs.specs.declared.AccessPoint.{AccessPoint}
use Rattle.structs.specs.declared.Network.{Network}
use Rattle.structs.specs.Lists.{get_in_flight, put_in_flight, get_outbox}
use Rattle.network.specs.Events.{Line, Reply}
use Rattle.in_flight.specs.Post.{posted}
use Rattle.actions.specs.Done.{Done, unchanged_by, join_of, leave_of, tick_of, receive_of, lose_of}
use Rattle.structs.specs.declared.Kind.{Kind}
use Rattle.structs.specs.declared.Kind.TheVariants.{Join, Leave, Deliver, Repeat, Lose, Tick, Who}
use Rattle.events.specs.Event.{is_who}
use Rattle.structs.specs.declared.Outbox.{Outbox}
use Rattle.structs.specs.declared.InFlights.{InFlights}

-- the packet of m in flight that the event is about, 0 where it is about none
abbrev pub packet_for : Kind → ℕ → ℕ → ℕ
packet_for Join at m = 0
packet_for Leave at m = 0
packet_for Deliver at m = cond (ltb at m) at 0
packet_for Repeat at m = cond (ltb at m) at 0
packet_for Lose at m = cond (ltb at m) at 0
packet_for Tick at m = 0
packet_for Who at m = 0

-- the access point of k that acts, 0 where none does; the packet goes to the AP `to`
abbrev pub point_for : Kind → ℕ → ℕ → ℕ → ℕ → ℕ
point_for Join at k m to = cond (ltb at k) at 0
point_for Leave at k m to = cond (ltb at k) at 0
point_for Deliver at k m to = cond (ltb at m) to 0
point_for Repeat at k m to = cond (ltb at m) to 0
point_for Lose at k m to = 0
point_for Tick at k m to = cond (ltb at k) at 0
point_for Who at k m to = 0

-- whether the packet is taken out
abbrev pub taken_for : Kind → ℕ → ℕ → Bool
taken_for Join at m = false
taken_for Leave at m = false
taken_for Deliver at m = ltb at m
taken_for Repeat at m = false
taken_for Lose at m = ltb at m
taken_for Tick at m = false
taken_for Who at m = false

-- what it does, on a floor of k APs with T = t and R = r and m packets in flight: its record is a, and the packet is p
abbrev pub action_for : Kind → ℕ → Station → ℕ → Option ℕ → List ℕ → ℕ → ℕ → ℕ → ℕ → AccessPoint → InFlight → Done
action_for Join at s n old c k t r m a p = join_of at k t r s n old c a
action_for Leave at s n old c k t r m a p = leave_of at k s a
action_for Deliver at s n old c k t r m a p = receive_of at m p a
action_for Repeat at s n old c k t r m a p = receive_of at m p a
action_for Lose at s n old c k t r m a p = lose_of at m a
action_for Tick at s n old c k t r m a p = tick_of at k t a
-- a who changes nothing, and is answered by the holders' mask
action_for Who at s n old c k t r m a p = unchanged_by 0 a

-- the packets in flight, where packet i is taken out or not, and then those of o are sent
unfoldable pub settled_by : Bool → ℕ → Outbox → InFlights → InFlights
settled_by taken i o t = put_in_flight t (posted (get_outbox o) (cond taken (without i (get_in_flight t)) (get_in_flight t)))

-- what is stored, and what is answered: AP b did x
abbrev pub stored_by : Network → ℕ → Bool → ℕ → Done → Reply
stored_by w b taken i x =
    record {
      line = record { answer = x.answer; sent = x.sent.count; given_up = x.given_up; held = 0; tables = 0 };
      network = record {
        ap_count = w.ap_count;
        timeout = w.timeout;
        resend_limit = w.resend_limit;
        points = set w.points b x.point;
        in_flight = settled_by taken i x.sent w.in_flight;
      };
    }

-- what is answered where an access point's part is the number a, n packets sent and g moves given up, and h the mask of those that hold the
-- station: a who is answered by the mask alone
abbrev pub answered_by : Kind → Station → ℕ → ℕ → ℕ → ℕ → Line
answered_by k s a n g h =
    cond (is_who k)
    (cond (is_group s) (record { answer = 13; sent = 0; given_up = 0; held = 0; tables = 0 }) (record { answer = 0; sent = 0; given_up = 0; held = h; tables = ones h }))
    (record { answer = a; sent = n; given_up = g; held = 0; tables = 0 })
