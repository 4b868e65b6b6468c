-- Outside bytes at an access point alone: what the code's result means, and the definition that the contract cites.
use Rattle.std.specs.Prelude.{ℕ, cond, ◌≡◌, List, ◌++◌, length, drop, nat_lt, Result, Ok, Err}
use Rattle.answers.specs.declared.Refusal.{Refusal}
use Rattle.answers.specs.Numbers.{refusal_number}
use Rattle.packet.specs.Fields.{Fields}
use Rattle.reader.specs.declared.Received.{Received}
use Rattle.machine.specs.Packets.{Packet, fields_as}
use Rattle.machine.specs.AccessPoint.{receive}
use Rattle.machine.specs.Lone.{LoneAnswer, written_all, outside}
use Rattle.structs.specs.declared.AccessPoint.{AccessPoint}
use Rattle.structs.specs.declared.LoneAccessPoint.{LoneAccessPoint}
use Rattle.record.specs.Lens.{get_point, put_point, get_lone, put_lone}
use Rattle.record.specs.Valid.{valid_lone_record}
use Rattle.receiving.specs.declared.Reply.{Reply}
use Rattle.receiving.specs.Receive.{message_in}
use Rattle.access_point.specs.declared.Answered.{Answered}

-- the same AP alone with another record
abbrev pub with_record : AccessPoint → LoneAccessPoint → LoneAccessPoint
with_record a l = record { point = a; number = l.number; ap_count = l.ap_count; timeout = l.timeout; resend_limit = l.resend_limit }

-- the answer, the record, the length written and what the lent buffer then holds
pub record Taken : Type 0 where
  pub answer : ℕ
  pub lone : LoneAccessPoint
  pub len : ℕ
  pub buffer : List ℕ

-- a refusal: record and buffer as they came
abbrev pub refused_with : ℕ → LoneAccessPoint → List ℕ → Taken
refused_with n l b = record { answer = n; lone = l; len = 0; buffer = b }

-- the code's result at l, with what the buffer then holds: a refusal hands no record out, so that l stays
abbrev pub outside_of : LoneAccessPoint → Result Answered Refusal → List ℕ → Taken
outside_of l (Ok x) b = record { answer = 0; lone = x.lone; len = x.len; buffer = b }
outside_of l (Err e) b = refused_with (refusal_number e) l b

-- the same of a record that is changed where it stands, and is f then
abbrev pub taken_at : LoneAccessPoint → Result ℕ Refusal → List ℕ → Taken
taken_at f (Ok n) b = record { answer = 0; lone = f; len = n; buffer = b }
taken_at f (Err e) b = refused_with (refusal_number e) f b

-- refused, the record f is the record l as it came
abbrev pub Unchanged : Result ℕ Refusal → LoneAccessPoint → LoneAccessPoint → Type 0
Unchanged (Ok n) f l = Unit {0}
Unchanged (Err e) f l = f ≡ l

-- what the machine answers, its record put back
abbrev pub taken_of : LoneAccessPoint → LoneAnswer → Taken
taken_of l x = record { answer = x.answer; lone = put_lone l x.lone; len = x.len; buffer = x.buffer }

-- 14 for a record that is not valid, and else the machine's answer to the octets s from the AP `from`, with the lent buffer b
unfoldable pub outside_done : LoneAccessPoint → ℕ → List ℕ → List ℕ → Taken
outside_done l from s b = cond (valid_lone_record l) (taken_of l (outside (get_lone l) from s b)) (refused_with 14 l b)

-- The packet p that the reader accepted: the AP acts; "a buffer too short for them is 10"
unfoldable pub answer_done : LoneAccessPoint → ℕ → Packet → List ℕ → Taken
answer_done l from p b =
    let x = receive from p (get_point l.point) in
    let o = written_all x.sends in
    cond (nat_lt (length b) (length o)) (refused_with 10 l b)
    (record { answer = 0; lone = with_record (put_point l.point x.point) l; len = length o; buffer = o ++ drop (length o) b })

-- the fields of the answer to the packet that was received
abbrev pub reply_fields : Received → Reply → Fields
reply_fields r y = fields_as (message_in y) (record { identifier = r.identifier; station = r.station; sequence = r.sequence; message = message_in y })
