-- Document 01: "One AP alone, whose record is then held together with its own number, the floor's AP count, T and R". Here are its
-- calls: set-up, the events that it gives itself (join, leave, tick, who), and outside bytes. Each is an ordered table of tests and
-- what the machine's access point does where none of them passes.
use Rattle.std.specs.Prelude.{ℕ, min, ◌≡◌, refl, true, cond, ◌||◌, not, List, [], ◌∷◌, ◌++◌, map, ltb, eqb, length, drop, replicate}
use Rattle.std.specs.Prelude.{Option, None, Some}
use Rattle.lists.specs.Table.{Test, first_of, accepts}
use Rattle.reader.specs.Read.{read_of}
use Rattle.machine.specs.Stations.{Station}
use Rattle.machine.specs.Associations.{padded}
use Rattle.machine.specs.Packets.{Outgoing}
use Rattle.machine.specs.AccessPoint.{Action, origin_of, join_tests, join_from, leave_by, tick_by}
use Rattle.machine.specs.Events.{group_address, holds}
use Rattle.machine.specs.Network.{setup_tests}
use Rattle.machine.specs.Lone.{written_all, action_on}
use Rattle.machine.specs.Valid.{valid_setup}
use Rattle.structs.specs.declared.LoneAccessPoint.{LoneAccessPoint}
use Rattle.record.specs.Lens.{get_point, put_point, get_lone}
use Rattle.record.specs.Valid.{valid_lone_record}
use Rattle.access_point.specs.Outside.{with_record}
use Rattle.network.specs.Lens.{new_point}
use Rattle.alone.specs.declared.Reply.{Reply}
use Rattle.alone.specs.declared.Outcome.{Outcome}

-- what a call tells: the record and the reply, and what the lent buffer then holds
pub record Told : Type 0 where
  pub outcome : Outcome
  pub buffer : List ℕ

abbrev pub told_of : Outcome → List ℕ → Told
told_of r b = record { outcome = r; buffer = b }

-- a reply with nothing but its answer: "every other number of the answer 0"
abbrev pub reply_with : ℕ → Reply
reply_with n = record { answer = n; sent = 0; given_up = 0; held = 0; to = replicate 8 0; len = 0 }

-- the record l as it came, and the answer n
abbrev pub answered : ℕ → LoneAccessPoint → Outcome
answered n l = record { lone = l; reply = reply_with n }

-- y, unless a test passes: the first that does refuses with its number
abbrev pub unless : {A : Type 0} → List Test → (ℕ → A) → A → A
unless ts refused y = cond (accepts (first_of ts)) y (refused (first_of ts))

-- The AP acts

-- the receivers of packets, in order of sending, then zeros: eight places
abbrev pub receivers_of : List Outgoing → List ℕ
receivers_of xs = padded 8 (map (λ (x : Outgoing). x.to) xs)

-- accepted, with what the AP sends and how many moves it gives up; "the length written is returned"
unfoldable pub reply_to : Action → Reply
reply_to x =
    record {
      answer = 0;
      sent = length x.sends;
      given_up = length x.happened.given_up;
      held = 0;
      to = receivers_of x.sends;
      len = length (written_all x.sends);
    }

-- the octets o at the front of the buffer b, whose rest stays
abbrev pub front_of : List ℕ → List ℕ → List ℕ
front_of o b = o ++ drop (length o) b

-- the AP whose record is l does x: its record is put back, and "the packets that it sends are written in order at the front of a lent
-- buffer", b
unfoldable pub done_alone : Action → LoneAccessPoint → List ℕ → Told
done_alone x l b = told_of (record { lone = with_record (put_point l.point x.point) l; reply = reply_to x }) (front_of (written_all x.sends) b)

-- "a buffer too short for them is 10", after every other number
abbrev pub too_short : Action → List ℕ → Test
too_short x b = (ltb (length b) (length (written_all x.sends)), 10)

-- the AP does x, unless one of the tests refuses, or 10 after them: "A refusal .. changes neither record nor buffer"
unfoldable pub acts_unless : List Test → Action → LoneAccessPoint → List ℕ → Told
acts_unless ts x l b = unless (ts ++ (too_short x b ∷ [])) (λ n. told_of (answered n l) b) (done_alone x l b)

-- 10 is the last: 13, where it applies, decides whatever is sent
pub ten_last : (x : Action) (l : LoneAccessPoint) (b : List ℕ) → acts_unless ((true, 13) ∷ []) x l b ≡ told_of (answered 13 l) b
unfolding acts_unless
ten_last x l b = refl

-- "Any call given a record .. outside this paper's limits .. also gets 14, before every other number"
abbrev pub not_valid_test : LoneAccessPoint → Test
not_valid_test l = (not (valid_lone_record l), 14)

-- The calls

-- set-up of AP n of k with T = t and R = r: "14: APs 0 or above 8, T 0, or R above 7", or the AP's own number not on the floor; else the
-- record, whatever l held, is "empty at first"
unfoldable pub set_up_alone : LoneAccessPoint → ℕ → ℕ → ℕ → ℕ → Outcome
set_up_alone l n k t r =
    unless ((not (valid_setup k t r), 14) ∷ (not (ltb n k), 14) ∷ []) (λ m. answered m l)
    (answered 0 (record { point = new_point; number = n; ap_count = k; timeout = t; resend_limit = r }))

-- the old AP that a join names by a number of 32 bits: the highest is none, and a number that 16 bits do not hold is no AP's
unfoldable pub old_named : ℕ → Option ℕ
old_named n = cond (eqb n 4294967295) None (Some (min n 65535))

-- join of the station s numbered n, with the context c: 14, "13, 7, 9, then 15 ..; 16 ..; 17 ..", 10
unfoldable pub join_alone : LoneAccessPoint → Station → ℕ → Option ℕ → List ℕ → List ℕ → Told
join_alone l s n old c b =
    let o = origin_of l.ap_count l.number old in
    acts_unless
    (not_valid_test l ∷ group_address s ∷ (ltb 4095 n, 7) ∷ (ltb 64 (length c), 9) ∷ join_tests o s n (get_point l.point))
    (join_from o l.ap_count l.timeout l.resend_limit 0 l.number s n c (get_point l.point))
    l b

-- leave: 14, 13. It sends nothing, and no buffer is lent
unfoldable pub leave_alone : LoneAccessPoint → Station → Outcome
leave_alone l s = (acts_unless (not_valid_test l ∷ group_address s ∷ []) (leave_by s (get_point l.point)) l []).outcome

-- tick: 14, 10
unfoldable pub tick_alone : LoneAccessPoint → List ℕ → Told
tick_alone l b = acts_unless (not_valid_test l ∷ []) (tick_by l.timeout (get_point l.point)) l b

-- outside bytes s from the AP `from`: 14, "11: .. a sender not on the floor or the AP itself, tested before 1", the reader's numbers, 10
unfoldable pub outside_alone : LoneAccessPoint → ℕ → List ℕ → List ℕ → Told
outside_alone l from s b =
    acts_unless
    (not_valid_test l ∷ (not (ltb from l.ap_count) || eqb from l.number, 11) ∷ (not (accepts (read_of s).answer), (read_of s).answer) ∷ [])
    (action_on (get_lone l) from s)
    l b

-- who: 14, 13; whether a row of s is there
unfoldable pub who_alone : LoneAccessPoint → Station → Outcome
who_alone l s =
    unless (not_valid_test l ∷ group_address s ∷ []) (λ n. answered n l)
    (record { lone = l; reply = record { answer = 0; sent = 0; given_up = 0; held = cond (holds s (get_point l.point)) 1 0; to = replicate 8 0; len = 0 } })

-- examples: AP 3 of 3 is 14, before 13 for a group of stations

abbrev broken : LoneAccessPoint
broken = record { point = new_point; number = 3; ap_count = 3; timeout = 2; resend_limit = 0 }

pub first_14 : who_alone broken (1 ∷ 0 ∷ 0 ∷ 0 ∷ 0 ∷ 1 ∷ []) ≡ answered 14 broken
unfolding who_alone valid_lone_record valid_setup setup_tests
first_14 = refl
