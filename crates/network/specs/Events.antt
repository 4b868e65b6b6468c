-- Refusal 14 of a network's record, an event on the record, and a list of events.
use Rattle.std.specs.Prelude.{ℕ, Bool, true, cond, ◌&&◌, ◌≡◌, List, [], ◌∷◌, leb, take}
use Rattle.std.proofs.Math.Path.{refl}
use Rattle.lists.specs.Places.{every}
use Rattle.machine.specs.Moves.{Open}
use Rattle.machine.specs.Network as floor
use Rattle.machine.specs.Events.{Event, tick, Outcome, given_up_count, step}
use Rattle.machine.specs.Valid.{distinct, valid_point, valid_in_flight, valid_setup}
use Rattle.record.specs.Lens.{get_point}
use Rattle.record.specs.Valid.{valid_record}
use Rattle.structs.specs.declared.Network.{Network}
use Rattle.network.specs.Lens.{get, put, new_point, new_network}
use Rattle.structs.specs.Lists.{get_in_flight}

-- 14 does not apply: "a used length, size, AP count, T, R, sequence number, ticks or resends left, or AP number", "two rows of
-- one station at one AP", "a packet in the air that the reader refuses"
unfoldable pub valid_network_record : Network → Bool
valid_network_record w =
    valid_setup w.ap_count w.timeout w.resend_limit
    && (every (valid_record w.ap_count) (take w.ap_count w.points)
    && (leb w.in_flight.count 64 && every (valid_in_flight w.ap_count) (get_in_flight w.in_flight)))

-- what an event answers: ANSWER, SENT, GIVENUP, HELD, TABLES
pub record Line : Type 0 where
  pub answer : ℕ
  pub sent : ℕ
  pub given_up : ℕ
  pub held : ℕ
  pub tables : ℕ

-- and the record after it
pub record Reply : Type 0 where
  pub line : Line
  pub network : Network

-- of an outcome of the machine
unfoldable pub line_of : Outcome → Line
line_of o = record { answer = o.answer; sent = o.sent; given_up = given_up_count o; held = o.held; tables = o.tables }

unfoldable pub reply_of : Network → Outcome → Reply
reply_of w o = record { line = line_of o; network = put w o.network }

-- "A refusal returns its number, every other number of the answer 0 .., sends 0, and changes neither record nor buffer."
unfoldable pub refused : ℕ → Network → Reply
refused n w = record { line = record { answer = n; sent = 0; given_up = 0; held = 0; tables = 0 }; network = w }

-- an event on the record: "14, before every other number", else the machine's step. The record's moves have no names.
unfoldable pub event_of : Network → Event → Reply
event_of w e = cond (valid_network_record w) (reply_of w (step (get w) 0 e)) (refused 14 w)

-- a list of events: "Each event .. gets the floor as the event before left it, refused or not"

-- the record after it
unfoldable pub run_of : Network → List Event → Network
run_of w [] = w
run_of w (e ∷ es) = run_of (event_of w e).network es

-- what its events answer, in order
unfoldable pub lines_of : Network → List Event → List Line
lines_of w [] = []
lines_of w (e ∷ es) = (event_of w e).line ∷ lines_of (event_of w e).network es

-- examples

-- one move given up is told
module _ (m : Open) (f : floor.Network) where
  pub one_given_up : (line_of (record { answer = 0; sent = 0; at = 0; happened = record { opened = []; resent = []; answered = []; given_up = m ∷ [] }; held = 0; tables = 0; network = f })).given_up ≡ 1
  unfolding line_of given_up_count
  one_given_up = refl

-- a record of 9 APs gets 14, also for a tick at an AP that is not there, whose number is 11
pub first_14 : event_of (new_network 9 1 0) (tick 200) ≡ refused 14 (new_network 9 1 0)
unfolding event_of valid_network_record valid_setup floor.setup_tests new_network
first_14 = refl

-- one AP, and past the AP count a point with 9 moves: 14 does not look there
pub unused_passes : valid_network_record
    (record {
      ap_count = 1;
      timeout = 1;
      resend_limit = 0;
      points = new_point ∷ record { associations = new_point.associations; moves = record { items = []; count = 9 }; next_identifier = 0; opened = 0; resent = 0; answered = 0; given_up = 0 } ∷ [];
      in_flight = record { items = []; count = 0 };
    })
    ≡ true
unfolding valid_network_record valid_setup floor.setup_tests every valid_record valid_point distinct new_point get_point
unused_passes = refl
