-- What the machine answers, by computation: document 01's script event by event, and one short script for each rule.
-- Assumes nothing.
use Prim.Native.Nat.{ℕ}
use mathlib.Core.Path.{◌≡◌, refl}
use mathlib.Core.Bool.{true, false}
use mathlib.Core.List.{List, [], ◌∷◌, ◌++◌, map}
use Rattle.std.specs.Prelude.{Option, None, Some}
use lib.ListN.{length, take, replicate}
use Rattle.lists.specs.Places.{nth, without, every}
use Rattle.sequence.specs.Distance.{distance, newer_of}
use Rattle.packet.specs.Octets.{be16}
use Rattle.reader.specs.Refusals.{head_tests, data_tests, reader_tests}
use Rattle.reader.specs.Read.{read_of, context_of}
use Rattle.writer.specs.Write.{octets_of}
use Rattle.structs.specs.declared.Association.{Association}
use Rattle.structs.specs.declared.InFlight.{InFlight}
use Rattle.machine.specs.Stations.{Station, same, is_group}
use Rattle.machine.specs.Associations.{padded, given, association, sequence_of, held_context, context_octets, associate, dissociate, dissociate_older, dissociate_exactly, fill}
use Rattle.machine.specs.Packets.{Outgoing, add_notify, stale_move, fields_as, written, carried, message_of, packet_of, readable, packet_in, octets_in}
use Rattle.machine.specs.Moves.{Open, nothing, counted, counts_after, new_move, opening, notice_of, notices_of, agrees, earliest, close, answering, timed, fate, kept_from, kept, resent_by, resends, lapsed_by, lapsed, ticking}
use Rattle.machine.specs.AccessPoint.{new_point, with_associations, with_moves, use_identifier, quietly, origin_of, joined, add_notifies, join_from, leave_by, tick_by, answer_to, answering_with, receive_add, receive_notify, receive_response, receive_by, receive, needs_move}
use Rattle.machine.specs.Network.{setup_tests, new_network, access_point_at, set_point, set_in_flight, send, send_all}
use Rattle.machine.specs.Events.{Event, join, leave, deliver, repeat, lose, tick, who, unknown_point, unknown_packet, group_address, event_tests, refusal, Outcome, given_up_count, quiet, act, receive_frame, receive_at, holds, held_by, ones_in, accepted, step}
use Rattle.machine.specs.Valid.{valid_association, distinct, valid_move, valid_point, valid_in_flight, valid_setup, valid_network}
use Rattle.machine.specs.Lone.{LoneAccessPoint, valid_lone, action_on, written_all, outside_tests, with_point, outside}
use Rattle.machine.specs.History.{World, after, run, begin, times_in, sends_of, among, closes_of, open_among, open_since, is_open, was_given_up}
use Rattle.machine.specs.Joins.{answers_of, joins_with, joins_of, left_with, left}
use Rattle.machine.specs.Claim.{bit, stands}

-- the stations 02 00 00 00 00 01 and 02 00 00 00 00 02
abbrev pub s1 : Station
s1 = 2 ∷ 0 ∷ 0 ∷ 0 ∷ 0 ∷ 1 ∷ []

abbrev s2 : Station
s2 = 2 ∷ 0 ∷ 0 ∷ 0 ∷ 0 ∷ 2 ∷ []

-- ANSWER, SENT, GIVENUP, HELD and TABLES of each event of a list, in its order. Where document 01 prints `-` there is a 0.
abbrev line_of : Outcome → List ℕ
line_of o = o.answer ∷ o.sent ∷ given_up_count o ∷ o.held ∷ o.tables ∷ []

unfoldable printed : World → List Event → List (List ℕ)
printed w [] = []
printed w (e ∷ es) = line_of (step w.network (length w.log) e) ∷ printed (after w e) es

-- lines: accepted with k packets sent, or with k moves given up; HELD and TABLES; refused
abbrev sent : ℕ → List ℕ
sent k = 0 ∷ k ∷ 0 ∷ 0 ∷ 0 ∷ []

abbrev lapse : ℕ → List ℕ
lapse k = 0 ∷ 0 ∷ k ∷ 0 ∷ 0 ∷ []

abbrev held : ℕ → ℕ → List ℕ
held h t = 0 ∷ 0 ∷ 0 ∷ h ∷ t ∷ []

abbrev refused : ℕ → List ℕ
refused k = k ∷ 0 ∷ 0 ∷ 0 ∷ 0 ∷ []

-- document 01's script, from "2 2 1"
abbrev script : List Event
script =
    join 0 s1 10 None (0xab ∷ [])
    ∷ join 1 s1 11 (Some 0) []
    ∷ lose 1
    ∷ tick 1
    ∷ tick 1
    ∷ deliver 1
    ∷ deliver 1
    ∷ who s1
    ∷ []

-- P8: the MOVE-notify of s1 numbered 11, with identifier 0
abbrev p8 : List ℕ
p8 = 0 ∷ 1 ∷ 0 ∷ 0 ∷ 0 ∷ 18 ∷ 6 ∷ 0 ∷ 2 ∷ 0 ∷ 0 ∷ 0 ∷ 0 ∷ 1 ∷ 0 ∷ 11 ∷ 0 ∷ 0 ∷ []

-- its answer, SUCCESSFUL with no context
abbrev p8_answer : List ℕ
p8_answer = 0 ∷ 2 ∷ 0 ∷ 0 ∷ 0 ∷ 18 ∷ 6 ∷ 0 ∷ 2 ∷ 0 ∷ 0 ∷ 0 ∷ 0 ∷ 1 ∷ 0 ∷ 11 ∷ 0 ∷ 0 ∷ []

-- an AP alone, numbered b, on a floor of two
abbrev lone : ℕ → LoneAccessPoint
lone b = record { point = new_point; number = b; ap_count = 2; timeout = 2; resend_limit = 1 }

-- joins at AP 0, each of another station
abbrev joining : Option ℕ → List ℕ → List Event
joining old is = map (λ i. join 0 (2 ∷ 0 ∷ 0 ∷ 0 ∷ 0 ∷ i ∷ []) 5 old []) is

abbrev ten : List ℕ
ten = 1 ∷ 2 ∷ 3 ∷ 4 ∷ 5 ∷ 6 ∷ 7 ∷ 8 ∷ 9 ∷ 10 ∷ []

-- the answers of a list
abbrev answers : List (List ℕ) → List (List ℕ)
answers ls = map (λ l. take 1 l) ls

-- an association numbered n with k octets of context, and a move towards o with t ticks and r resends left
abbrev row : ℕ → ℕ → Association
row n k = record { station = s1; sequence = n; context_len = k; context = replicate 64 0 }

abbrev open_move : ℕ → ℕ → ℕ → ℕ → Open
open_move n o t r = record { move = record { station = s1; sequence = n; old = o; identifier = 0; ticks_left = t; resends_left = r }; name = 0 }

abbrev packet_in_flight : ℕ → ℕ → ℕ → InFlight
packet_in_flight from to k = record { from = from; to = to; len = k; octets = p8 ++ replicate 64 0 }

-- A list whose joins are each newer than the one before, and not than all earlier ones: 4095 is not newer than 1.
abbrev pub around : List Event
around = join 0 s1 1 None [] ∷ join 0 s1 2048 (Some 0) [] ∷ join 1 s1 4095 (Some 0) [] ∷ deliver 0 ∷ []

pub record Examples : Type 0 where
  -- document 01's script prints what document 01 says
  document_script :
      printed (begin 2 2 1) script
      ≡ (0 ∷ 1 ∷ 0 ∷ 0 ∷ 0 ∷ [])
      ∷ (0 ∷ 1 ∷ 0 ∷ 0 ∷ 0 ∷ [])
      ∷ (0 ∷ 0 ∷ 0 ∷ 0 ∷ 0 ∷ [])
      ∷ (0 ∷ 0 ∷ 0 ∷ 0 ∷ 0 ∷ [])
      ∷ (0 ∷ 1 ∷ 0 ∷ 0 ∷ 0 ∷ [])
      ∷ (0 ∷ 1 ∷ 0 ∷ 0 ∷ 0 ∷ [])
      ∷ (0 ∷ 0 ∷ 0 ∷ 0 ∷ 0 ∷ [])
      ∷ (0 ∷ 0 ∷ 0 ∷ 2 ∷ 1 ∷ [])
      ∷ []
  -- after it AP 1 holds the context that the answer brought, and has counted a move opened, resent and answered
  script_context : context_octets s1 (access_point_at (run (begin 2 2 1) script).network 1).associations ≡ 0xab ∷ []
  script_counts : (access_point_at (run (begin 2 2 1) script).network 1).counts ≡ record { opened = 1; resent = 1; answered = 1; given_up = 0 }
  -- only the ADD-notify of the first join is still in flight
  script_in_flight : length (run (begin 2 2 1) script).network.in_flight ≡ 1
  -- "comparing sequence numbers without wrap": 0 is newer than 4095, for a join and for a notice
  wraps_join :
      printed (begin 2 1 0) (join 0 s1 4095 (Some 0) [] ∷ join 0 s1 0 (Some 0) [] ∷ [])
      ≡ sent 0 ∷ sent 0 ∷ []
  wraps_notify :
      printed (begin 2 1 0) (join 0 s1 4095 (Some 0) [] ∷ join 1 s1 0 (Some 0) [] ∷ deliver 0 ∷ who s1 ∷ [])
      ≡ sent 0 ∷ sent 1 ∷ sent 1 ∷ held 2 1 ∷ []
  -- the same for an ADD-notify
  wraps_add :
      printed (begin 2 1 0) (join 1 s1 4095 (Some 1) [] ∷ join 0 s1 0 None [] ∷ deliver 0 ∷ who s1 ∷ [])
      ≡ sent 0 ∷ sent 1 ∷ sent 0 ∷ held 1 1 ∷ []
  -- "dropping an open move when its row goes": the station leaves, and the move is sent again and then given up
  row_goes :
      printed (begin 2 1 1) (join 1 s1 11 (Some 0) [] ∷ leave 1 s1 ∷ tick 1 ∷ tick 1 ∷ tick 1 ∷ [])
      ≡ sent 1 ∷ sent 0 ∷ sent 1 ∷ lapse 1 ∷ sent 0 ∷ []
  -- "removing on STALE_MOVE a row that has since become newer": it stays, and the station stands in two tables
  stale_since_newer :
      printed (begin 2 3 1) (join 1 s1 8 (Some 1) [] ∷ join 0 s1 5 (Some 1) [] ∷ deliver 0 ∷ join 0 s1 9 (Some 0) [] ∷ deliver 0 ∷ who s1 ∷ [])
      ≡ sent 0 ∷ sent 1 ∷ sent 1 ∷ sent 0 ∷ sent 0 ∷ held 3 2 ∷ []
  -- a row numbered exactly so goes
  stale_exactly :
      printed (begin 2 3 1) (join 1 s1 8 (Some 1) [] ∷ join 0 s1 5 (Some 1) [] ∷ deliver 0 ∷ deliver 0 ∷ who s1 ∷ [])
      ≡ sent 0 ∷ sent 1 ∷ sent 1 ∷ sent 0 ∷ held 2 1 ∷ []
  -- "starting a resend with a new identifier": the notice and the one that is sent again have the same bytes
  same_bytes : map octets_in (run (begin 2 1 1) (join 1 s1 11 (Some 0) [] ∷ tick 1 ∷ [])).network.in_flight ≡ p8 ∷ p8 ∷ []
  -- two ticks of T before a resend, and R resends before a move is given up: the row stays
  gives_up :
      printed (begin 2 2 1) (join 1 s1 11 (Some 0) [] ∷ tick 1 ∷ tick 1 ∷ tick 1 ∷ tick 1 ∷ who s1 ∷ [])
      ≡ sent 1 ∷ sent 0 ∷ sent 1 ∷ sent 0 ∷ lapse 1 ∷ held 2 1 ∷ []
  -- an answer closes the earliest opened move that agrees: the later one is still open
  earliest_closes :
      printed (begin 2 1 0) (join 1 s1 11 (Some 0) [] ∷ join 1 s2 11 (Some 0) [] ∷ deliver 0 ∷ deliver 1 ∷ tick 1 ∷ [])
      ≡ sent 1 ∷ sent 1 ∷ sent 1 ∷ sent 0 ∷ lapse 1 ∷ []
  -- and no other: the answer for s2 leaves the move of s1 open, though that was opened earlier
  agreeing_closes :
      map (λ (m : Open). m.move.station) (access_point_at (run (begin 2 1 0) (join 1 s1 11 (Some 0) [] ∷ join 1 s2 11 (Some 0) [] ∷ deliver 1 ∷ deliver 1 ∷ [])).network 1).moves
      ≡ s1 ∷ []
  -- nor does an answer from another AP than the old one
  other_sender :
      map (λ from. agrees from (record { identifier = 0; station = s1; sequence = 11; message = stale_move }) (open_move 11 1 1 0).move) (0 ∷ 1 ∷ []) ≡ false ∷ true ∷ []
  -- what repeat hands over stays in flight, and its answer is the receiver's
  repeats :
      printed (begin 2 5 1) (join 0 s1 5 (Some 1) [] ∷ repeat 0 ∷ repeat 0 ∷ deliver 2 ∷ deliver 1 ∷ lose 0 ∷ lose 0 ∷ [])
      ≡ sent 1 ∷ sent 1 ∷ sent 1 ∷ sent 0 ∷ sent 0 ∷ sent 0 ∷ refused 12 ∷ []
  -- "A packet sent when the air has 64 is lost, and still counts as sent": of 70 packets 64 are in flight
  full_air : length (run (begin 8 2 1) (joining None ten)).network.in_flight ≡ 64
  full_air_sent : map (λ l. take 2 l) (printed (begin 8 2 1) (joining None ten)) ≡ replicate 10 (0 ∷ 7 ∷ [])
  -- rows 16 and 17, moves 8 and 9
  sixteen_rows : answers (printed (begin 1 2 1) (joining None (ten ++ (11 ∷ 12 ∷ 13 ∷ 14 ∷ 15 ∷ 16 ∷ 17 ∷ [])))) ≡ replicate 16 (0 ∷ []) ++ ((16 ∷ []) ∷ [])
  eight_moves : answers (printed (begin 2 2 1) (joining (Some 1) (1 ∷ 2 ∷ 3 ∷ 4 ∷ 5 ∷ 6 ∷ 7 ∷ 8 ∷ 9 ∷ []))) ≡ replicate 8 (0 ∷ []) ++ ((17 ∷ []) ∷ [])
  -- 16 before 17: a new station where there are 16 rows and 8 open moves
  rows_before_moves :
      answers (printed (begin 2 2 1) (joining (Some 1) (1 ∷ 2 ∷ 3 ∷ 4 ∷ 5 ∷ 6 ∷ 7 ∷ 8 ∷ []) ++ joining None (9 ∷ 10 ∷ 11 ∷ 12 ∷ 13 ∷ 14 ∷ 15 ∷ 16 ∷ []) ++ joining (Some 1) (17 ∷ [])))
      ≡ replicate 16 (0 ∷ []) ++ ((16 ∷ []) ∷ [])
  -- "it is used even where there is no other AP": a plain join on a floor of one sends nothing and uses an identifier
  alone :
      printed (begin 1 2 1) (join 0 s1 5 None [] ∷ []) ≡ sent 0 ∷ []
  alone_identifier : (access_point_at (run (begin 1 2 1) (join 0 s1 5 None [] ∷ [])).network 0).next_identifier ≡ 1
  -- "one ADD-notify .. goes to every other AP in rising number"
  announced :
      map (λ (x : Outgoing). x.to) (add_notifies 1 (record { identifier = 0; station = s1; sequence = 5; message = add_notify }) 0 4) ≡ 0 ∷ 2 ∷ 3 ∷ []
  -- an old AP that is not on the floor is as none: two ADD-notifies, and no move
  off_floor : printed (begin 3 2 1) (join 0 s1 5 (Some 3) [] ∷ []) ≡ sent 2 ∷ []
  -- "A row is added last, or the station's row gets n in its place."
  arrival :
      map (λ (r : Association). r.sequence) (access_point_at (run (begin 1 2 1) (join 0 s1 5 None [] ∷ join 0 s2 6 None [] ∷ join 0 s1 7 (Some 0) [] ∷ [])).network 0).associations
      ≡ 7 ∷ 6 ∷ []
  -- "from 65535 to 0"
  last_identifier : (use_identifier (record { associations = []; moves = []; next_identifier = 65535; counts = new_point.counts })).next_identifier ≡ 0
  -- "If old is this AP: context likewise, nothing sent": kept where a row was there, else empty; no identifier is used
  context_kept :
      context_octets s1 (access_point_at (run (begin 2 2 1) (join 0 s1 5 None (0xab ∷ []) ∷ join 0 s1 6 (Some 0) (0xcd ∷ []) ∷ [])).network 0).associations ≡ 0xab ∷ []
  context_dropped : context_octets s1 (access_point_at (run (begin 2 2 1) (join 0 s1 6 (Some 0) (0xcd ∷ []) ∷ [])).network 0).associations ≡ []
  -- the refusals of a join in their order, one cause less each time
  join_refusals :
      answers
      (printed (begin 2 2 1)
      (join 0 s1 5 None []
      ∷ join 2 (3 ∷ 0 ∷ 0 ∷ 0 ∷ 0 ∷ 1 ∷ []) 4096 None (replicate 65 0)
      ∷ join 0 (3 ∷ 0 ∷ 0 ∷ 0 ∷ 0 ∷ 1 ∷ []) 4096 None (replicate 65 0)
      ∷ join 0 s1 4096 None (replicate 65 0)
      ∷ join 0 s1 5 None (replicate 65 0)
      ∷ join 0 s1 5 None []
      ∷ join 0 s1 6 None (replicate 64 0)
      ∷ []))
      ≡ (0 ∷ []) ∷ (11 ∷ []) ∷ (13 ∷ []) ∷ (7 ∷ []) ∷ (9 ∷ []) ∷ (15 ∷ []) ∷ (0 ∷ []) ∷ []
  other_refusals :
      answers
      (printed (begin 2 2 1)
      (leave 2 (3 ∷ 0 ∷ 0 ∷ 0 ∷ 0 ∷ 1 ∷ []) ∷ leave 1 (3 ∷ 0 ∷ 0 ∷ 0 ∷ 0 ∷ 1 ∷ []) ∷ leave 1 s1 ∷ deliver 0 ∷ repeat 0 ∷ lose 0 ∷ tick 2 ∷ tick 1 ∷ who (3 ∷ 0 ∷ 0 ∷ 0 ∷ 0 ∷ 1 ∷ []) ∷ []))
      ≡ (11 ∷ []) ∷ (13 ∷ []) ∷ (0 ∷ []) ∷ (12 ∷ []) ∷ (12 ∷ []) ∷ (12 ∷ []) ∷ (11 ∷ []) ∷ (0 ∷ []) ∷ (13 ∷ []) ∷ []
  -- "14: APs 0 or above 8, T 0, or R above 7"
  setups :
      map (λ (p : ℕ × ℕ × ℕ). valid_setup p.0 p.1 p.2) ((0, 1, 0) ∷ (1, 1, 0) ∷ (8, 65535, 7) ∷ (9, 1, 0) ∷ (1, 0, 0) ∷ (1, 1, 8) ∷ [])
      ≡ false ∷ true ∷ true ∷ false ∷ false ∷ false ∷ []
  -- 14, of each part: sequence numbers, contexts, two rows of one station, old APs, ticks and resends left, packets in flight
  valid_rows : map valid_association (row 4095 64 ∷ row 4096 0 ∷ row 0 65 ∷ []) ≡ true ∷ false ∷ false ∷ []
  two_rows : distinct (row 1 0 ∷ row 2 0 ∷ []) ≡ false
  valid_moves :
      map (valid_move 2) (open_move 4095 1 65535 7 ∷ open_move 4096 1 1 0 ∷ open_move 0 2 1 0 ∷ open_move 0 0 0 0 ∷ open_move 0 0 1 8 ∷ [])
      ≡ true ∷ false ∷ false ∷ false ∷ false ∷ []
  valid_flight : map (valid_in_flight 2) (packet_in_flight 1 0 18 ∷ packet_in_flight 1 0 82 ∷ packet_in_flight 2 0 18 ∷ packet_in_flight 1 2 18 ∷ packet_in_flight 1 0 17 ∷ packet_in_flight 1 0 83 ∷ []) ≡ true ∷ true ∷ false ∷ false ∷ false ∷ false ∷ []
  -- one AP alone: P8 is answered at the front of the lent buffer, and the rest of it stays
  outside_answer : outside (lone 0) 1 p8 (replicate 20 7) ≡ record { answer = 0; lone = lone 0; len = 18; buffer = p8_answer ++ (7 ∷ 7 ∷ []) }
  -- 10 where it is too short, and then nothing changes; 11 for a sender not on the floor or the AP itself, before 1; the reader's number
  outside_short : outside (lone 0) 1 p8 (replicate 17 7) ≡ record { answer = 10; lone = lone 0; len = 0; buffer = replicate 17 7 }
  outside_order : (outside (lone 0) 0 [] []).answer ≡ 11
  outside_senders : map (λ from. (outside (lone 0) from p8 []).answer) (0 ∷ 1 ∷ 2 ∷ []) ≡ 11 ∷ 10 ∷ 11 ∷ []
  outside_reader : map (λ s. (outside (lone 0) 1 s []).answer) ([] ∷ take 17 p8 ∷ []) ≡ 1 ∷ 4 ∷ []
  -- 14 before every other number: the AP's own number is not on the floor
  outside_record : (outside (lone 2) 2 [] []).answer ≡ 14
  -- "At 2048 apart neither is newer": an ADD-notify removes nothing, and a MOVE-notify is answered STALE_MOVE
  apart_add :
      printed (begin 2 1 0) (join 1 s1 0 (Some 1) [] ∷ join 0 s1 2048 None [] ∷ deliver 0 ∷ who s1 ∷ [])
      ≡ sent 0 ∷ sent 1 ∷ sent 0 ∷ held 3 2 ∷ []
  apart_notify :
      printed (begin 2 1 0) (join 0 s1 0 (Some 0) [] ∷ join 1 s1 2048 (Some 0) [] ∷ deliver 0 ∷ deliver 0 ∷ who s1 ∷ [])
      ≡ sent 0 ∷ sent 1 ∷ sent 1 ∷ sent 0 ∷ held 1 1 ∷ []
  -- the words of demand 3, after two events of document 01's script and after all of it: the move is named 1, its notice is sent
  -- twice, it is open and then answered, and the station stands in both tables and then in that of AP 1 alone
  words_early :
      let w = run (begin 2 2 1) (take 2 script) in
      (sends_of 1 w.log ≡ 1) × (is_open s1 w.log ≡ true) × (was_given_up s1 w.log ≡ false) × (stands s1 w 0 ≡ true) × (stands s1 w 1 ≡ true)
  words_late :
      let w = run (begin 2 2 1) script in
      (sends_of 1 w.log ≡ 2) × (is_open s1 w.log ≡ false) × (was_given_up s1 w.log ≡ false) × (stands s1 w 0 ≡ false) × (stands s1 w 1 ≡ true)
  -- a move that a tick gave up is not open, and was given up
  words_given_up :
      let w = run (begin 2 1 0) (join 1 s1 11 (Some 0) [] ∷ tick 1 ∷ tick 1 ∷ []) in
      (sends_of 0 w.log ≡ 1) × (is_open s1 w.log ≡ false) × (was_given_up s1 w.log ≡ true) × (was_given_up s2 w.log ≡ false)
  -- a leave with no row counts as having left, until the next accepted join
  words_left :
      (left s1 (answers_of (run (begin 2 1 0) (join 0 s1 1 None [] ∷ leave 1 s1 ∷ [])).log) 1 ≡ true)
      × (left s1 (answers_of (run (begin 2 1 0) (join 0 s1 1 None [] ∷ leave 1 s1 ∷ join 1 s1 2 (Some 0) [] ∷ [])).log) 1 ≡ false)
  -- the list around 4096: its joins, and where the station stands after it
  pub around_joins :
      joins_of s1 (answers_of (run (begin 2 1 0) around).log)
      ≡ record { at = 1; sequence = 4095; old = Some 0; place = 2 }
      ∷ record { at = 0; sequence = 2048; old = Some 0; place = 1 }
      ∷ record { at = 0; sequence = 1; old = None; place = 0 }
      ∷ []
  pub around_left : left s1 (answers_of (run (begin 2 1 0) around).log) 1 ≡ false
  pub around_stands : stands s1 (run (begin 2 1 0) around) 1 ≡ false

pub examples : Examples
unfolding printed nth without every distance newer_of be16 head_tests data_tests reader_tests read_of context_of octets_of same is_group padded given association sequence_of held_context context_octets associate dissociate dissociate_older dissociate_exactly fill fields_as written carried message_of packet_of readable packet_in octets_in nothing counted counts_after new_move opening notice_of notices_of agrees earliest close answering timed fate kept_from kept resent_by resends lapsed_by lapsed ticking new_point with_associations with_moves use_identifier quietly origin_of joined add_notifies join_from leave_by tick_by answer_to answering_with receive_add receive_notify receive_response receive_by receive setup_tests new_network access_point_at set_point set_in_flight send send_all unknown_point unknown_packet group_address needs_move event_tests refusal given_up_count quiet act receive_frame receive_at holds held_by ones_in accepted step valid_association distinct valid_move valid_point valid_in_flight valid_setup valid_network valid_lone action_on written_all outside_tests with_point outside after run begin times_in sends_of among closes_of open_among open_since is_open was_given_up answers_of joins_with joins_of left_with left bit stands
examples =
    record {
      document_script = refl;
      script_context = refl;
      script_counts = refl;
      script_in_flight = refl;
      wraps_join = refl;
      wraps_notify = refl;
      wraps_add = refl;
      row_goes = refl;
      stale_since_newer = refl;
      stale_exactly = refl;
      same_bytes = refl;
      gives_up = refl;
      earliest_closes = refl;
      agreeing_closes = refl;
      other_sender = refl;
      repeats = refl;
      full_air = refl;
      full_air_sent = refl;
      sixteen_rows = refl;
      eight_moves = refl;
      rows_before_moves = refl;
      alone = refl;
      alone_identifier = refl;
      announced = refl;
      off_floor = refl;
      arrival = refl;
      last_identifier = refl;
      context_kept = refl;
      context_dropped = refl;
      join_refusals = refl;
      other_refusals = refl;
      setups = refl;
      valid_rows = refl;
      two_rows = refl;
      valid_moves = refl;
      valid_flight = refl;
      outside_answer = refl;
      outside_short = refl;
      outside_order = refl;
      outside_senders = refl;
      outside_reader = refl;
      outside_record = refl;
      apart_add = refl;
      apart_notify = refl;
      words_early = (refl, refl, refl, refl, refl);
      words_late = (refl, refl, refl, refl, refl);
      words_given_up = (refl, refl, refl, refl);
      words_left = (refl, refl);
      around_joins = refl;
      around_left = refl;
      around_stands = refl;
    }
