-- What an access point does at an event, with the answer: what the code's struct means, and the definitions that the contracts cite.
use Rattle.std.specs.Prelude.{ℕ, ◌≡◌, ◌≤◌, cond, not, List, [], ◌∷◌, map, ltb, length, Option, Result, Ok, Err}
use Rattle.lists.specs.Table.{Test, first_of, accepts}
use Rattle.answers.specs.declared.Refusal.{Refusal}
use Rattle.answers.specs.Numbers.{refusal_number}
use Rattle.reader.specs.Read.{read_of, context_of}
use Rattle.structs.specs.declared.InFlight.{InFlight}
use Rattle.machine.specs.Stations.{Station}
use Rattle.machine.specs.Packets.{packet_of, octets_in, carried}
use Rattle.machine.specs.AccessPoint as machine
use Rattle.machine.specs.AccessPoint.{origin_of, join_tests, join_from, leave_by, tick_by, receive}
use Rattle.machine.specs.Events.{group_address}
use Rattle.structs.specs.declared.AccessPoint.{AccessPoint}
use Rattle.record.specs.Lens.{get_point, put_point}
use Rattle.in_flight.specs.Post.{outbox_of}
use Rattle.excerpt.specs.Excerpts.{put_back}
use Rattle.actions.specs.declared.Action.{Action}
use Rattle.actions.specs.declared.Joining.{Joining}
use Rattle.structs.specs.declared.Outbox.{Outbox}

-- the answer, the record afterwards, the packets sent and how many moves were given up
pub record Done : Type 0 where
  pub answer : ℕ
  pub point : AccessPoint
  pub sent : Outbox
  pub given_up : ℕ

-- the record a as it came, and the answer n
abbrev pub unchanged_by : ℕ → AccessPoint → Done
unchanged_by n a = record { answer = n; point = a; sent = outbox_of []; given_up = 0 }

-- the record a afterwards, and nothing else
abbrev pub quietly : AccessPoint → Action
quietly a = record { point = a; sent = outbox_of []; given_up = 0 }

-- of the record a: what an accepted event does, or a as it came and the refusal
abbrev pub done_of : AccessPoint → Result Action Refusal → Done
done_of a (Ok x) = record { answer = 0; point = x.point; sent = x.sent; given_up = x.given_up }
done_of a (Err r) = unchanged_by (refusal_number r) a

-- of the record a, which is changed where it stands and is b afterwards, with the packets s sent: what an accepted event does, which gives up g
-- moves, or a as it came and the refusal
abbrev pub done_in : AccessPoint → AccessPoint → Outbox → Result ℕ Refusal → Done
done_in a b s (Ok g) = record { answer = 0; point = b; sent = s; given_up = g }
done_in a b s (Err r) = unchanged_by (refusal_number r) a

-- refused, the record b is a as it came
abbrev pub Left : Result ℕ Refusal → AccessPoint → AccessPoint → Type 0
Left (Ok g) b a = Unit {0}
Left (Err r) b a = b ≡ a

-- refused, the packets o are s as they came
abbrev pub Unsent : Result ℕ Refusal → Outbox → Outbox → Type 0
Unsent (Ok g) o s = Unit {0}
Unsent (Err r) o s = o ≡ s

-- the lists of a record that is lent have room for as many as its counts say, as the type of a record by value says
pub record Spans (a : AccessPoint) : Type 0 where
  pub associations : a.associations.count ≤ length a.associations.items
  pub moves : a.moves.count ≤ length a.moves.items

-- a join, put back into the record a; refused, a as it came
abbrev pub joining_of : AccessPoint → Result Joining Refusal → Done
joining_of a (Ok x) = record { answer = 0; point = put_back a x.after; sent = x.sent; given_up = 0 }
joining_of a (Err r) = unchanged_by (refusal_number r) a

-- the access point b, with the record a, acts: its record is put back, and its packets are written
unfoldable pub done_by : ℕ → AccessPoint → machine.Action → Done
done_by b a x =
    record { answer = 0; point = put_point a x.point; sent = outbox_of (map (carried b) x.sends); given_up = length x.happened.given_up }

-- the same, unless one of the tests refuses
unfoldable pub decided : List Test → ℕ → AccessPoint → machine.Action → Done
decided ts b a x = cond (accepts (first_of ts)) (done_by b a x) (unchanged_by (first_of ts) a)

-- "11: AP number not on the floor", of k APs
abbrev pub off_floor : ℕ → ℕ → Test
off_floor k b = (not (ltb b k), 11)

-- "12: no such packet in the air", of m packets
abbrev pub no_packet : ℕ → ℕ → Test
no_packet m i = (not (ltb i m), 12)

-- join at AP b of k, whose record is a: "11, 13, 7, 9, then 15 ..; 16 ..; 17 .."
abbrev pub tests_of_join : ℕ → ℕ → Station → ℕ → Option ℕ → List ℕ → AccessPoint → List Test
tests_of_join b k s n old c a =
    off_floor k b ∷ group_address s ∷ (ltb 4095 n, 7) ∷ (ltb 64 (length c), 9) ∷ join_tests (origin_of k b old) s n (get_point a)

unfoldable pub join_of : ℕ → ℕ → ℕ → ℕ → Station → ℕ → Option ℕ → List ℕ → AccessPoint → Done
join_of b k t r s n old c a = decided (tests_of_join b k s n old c a) b a (join_from (origin_of k b old) k t r 0 b s n c (get_point a))

-- "leave: 11, 13"
unfoldable pub leave_of : ℕ → ℕ → Station → AccessPoint → Done
leave_of b k s a = decided (off_floor k b ∷ group_address s ∷ []) b a (leave_by s (get_point a))

-- tick: 11
unfoldable pub tick_of : ℕ → ℕ → ℕ → AccessPoint → Done
tick_of b k t a = decided (off_floor k b ∷ []) b a (tick_by t (get_point a))

-- deliver, repeat: 12, then packet p, number i of m, is handed to its receiver, whose record is a
unfoldable pub receive_of : ℕ → ℕ → InFlight → AccessPoint → Done
receive_of i m p a =
    decided (no_packet m i ∷ []) p.to a (receive p.from (packet_of (read_of (octets_in p)) (context_of (octets_in p))) (get_point a))

-- lose: 12; no AP acts
unfoldable pub lose_of : ℕ → ℕ → AccessPoint → Done
lose_of i m a = unchanged_by (first_of (no_packet m i ∷ [])) a
