-- Document 01: "One AP alone, whose record is then held together with its own number, the floor's AP count, T and R, also takes
-- outside bytes with a sender's number, by the same rules."
use Rattle.std.specs.Prelude.{ℕ, Bool, cond, ◌&&◌, ◌||◌, not, List, [], ◌∷◌, ◌++◌, ltb, eqb, length, drop}
use Rattle.lists.specs.Table.{Test, first_of, accepts}
use Rattle.reader.specs.Read.{read_of, context_of}
use Rattle.machine.specs.Packets.{Outgoing, written, packet_of}
use Rattle.machine.specs.AccessPoint.{AccessPoint, Action, receive}
use Rattle.machine.specs.Valid.{valid_point, valid_setup}

pub record LoneAccessPoint : Type 0 where
  pub point : AccessPoint
  pub number : ℕ
  pub ap_count : ℕ
  pub timeout : ℕ
  pub resend_limit : ℕ

-- 14 does not apply: "AP count, T, R .., or AP number", and the AP's own record
unfoldable pub valid_lone : LoneAccessPoint → Bool
valid_lone l = valid_setup l.ap_count l.timeout l.resend_limit && (ltb l.number l.ap_count && valid_point l.ap_count l.point)

-- the answer, the record, the length written and what the lent buffer then holds
pub record LoneAnswer : Type 0 where
  pub answer : ℕ
  pub lone : LoneAccessPoint
  pub len : ℕ
  pub buffer : List ℕ

-- what the AP does with the octets s from the AP `from`, if they are a packet
unfoldable pub action_on : LoneAccessPoint → ℕ → List ℕ → Action
action_on l from s = receive from (packet_of (read_of s) (context_of s)) l.point

-- "The packets that it sends are written in order at the front of a lent buffer"
unfoldable pub written_all : List Outgoing → List ℕ
written_all [] = []
written_all (x ∷ xs) = written x.packet ++ written_all xs

-- 14; "11: .. for outside bytes, a sender not on the floor or the AP itself, tested before 1"; the reader's numbers; "a buffer too
-- short for them is 10, after the reader's numbers"
unfoldable pub outside_tests : LoneAccessPoint → ℕ → List ℕ → List ℕ → List Test
outside_tests l from s b =
    (not (valid_lone l), 14)
    ∷ (not (ltb from l.ap_count) || eqb from l.number, 11)
    ∷ (not (accepts (read_of s).answer), (read_of s).answer)
    ∷ (ltb (length b) (length (written_all (action_on l from s).sends)), 10)
    ∷ []

unfoldable pub with_point : AccessPoint → LoneAccessPoint → LoneAccessPoint
with_point a l = record { point = a; number = l.number; ap_count = l.ap_count; timeout = l.timeout; resend_limit = l.resend_limit }

-- the octets s from the AP `from`, with the lent buffer b; "the length written is returned"
unfoldable pub outside : LoneAccessPoint → ℕ → List ℕ → List ℕ → LoneAnswer
outside l from s b =
    let o = written_all (action_on l from s).sends in
    cond (accepts (first_of (outside_tests l from s b)))
    (record { answer = 0; lone = with_point (action_on l from s).point l; len = length o; buffer = o ++ drop (length o) b })
    (record { answer = first_of (outside_tests l from s b); lone = l; len = 0; buffer = b })
