-- A packet received at one access point's record: what the code's answer means, and the definition that the contract cites.
use Rattle.std.specs.Prelude.{ℕ, ◌≤◌, zero, suc, cond, List, [], ◌∷◌, length, take, replicate, nat_lt, slice_index_or, Option, None, Some}
use Rattle.lists.specs.Search.{index_by}
use Rattle.sequence.specs.Distance.{newer_of}
use Rattle.packet.specs.declared.Command.{Command}
use Rattle.packet.specs.declared.Command.TheVariants.{AddNotify, MoveNotify, MoveResponse}
use Rattle.structs.specs.declared.Association.{Association}
use Rattle.machine.specs.Stations.{Station}
use Rattle.machine.specs.Associations.{dissociate_exactly, fill}
use Rattle.machine.specs.Packets.{Message, successful, stale_move, Packet, Outgoing}
use Rattle.machine.specs.AccessPoint.{Action, answer_to, receive}
use Rattle.structs.specs.declared.AccessPoint.{AccessPoint}
use Rattle.record.specs.Lens.{get_point, put_point}
use Rattle.associations.specs.Rows.{is_of}
use Rattle.excerpt.specs.Excerpts.{put_back}
use Rattle.receiving.specs.declared.Reply.{Reply}
use Rattle.receiving.specs.declared.Reply.TheVariants.{Successful, StaleMove}
use Rattle.receiving.specs.declared.Handled.{Handled}
use Rattle.structs.specs.Blanks.{no_association}

-- what an answer says: its status, and the octets of its context
abbrev pub message_in : Reply → Message
message_in (Successful n c) = successful (take n c)
message_in StaleMove = stale_move

-- what an answer to the packet p from the AP `from` sends: a MOVE-response, or nothing
abbrev pub replies_of : ℕ → Packet → Option Reply → List Outgoing
replies_of from p None = []
replies_of from p (Some y) = answer_to from p (message_in y) ∷ []

-- the context of an answer has at most 64 octets
abbrev pub IsShort : Reply → Type 0
IsShort (Successful n c) = n ≤ 64
IsShort StaleMove = Unit {0}

-- the record afterwards and what is sent
pub record Result : Type 0 where
  pub point : AccessPoint
  pub sends : List Outgoing

abbrev pub handled_of : AccessPoint → ℕ → Packet → Handled → Result
handled_of a from p h = record { point = put_back a h.after; sends = replies_of from p h.reply }

-- what the machine's access point does, put back into the record
abbrev pub result_of : AccessPoint → Action → Result
result_of a x = record { point = put_point a x.point; sends = x.sends }

unfoldable pub handled_by : ℕ → Packet → AccessPoint → Result
handled_by from p a = result_of a (receive from p (get_point a))

-- the same answer as the code's enum, whole

-- SUCCESSFUL, with no context
abbrev pub empty_reply : Reply
empty_reply = Successful 0 (replicate 64 0)

-- to a MOVE-notify of station s and number n. An association that goes hands its context over, with its length.
unfoldable pub notify_reply : Station → ℕ → List Association → Reply
notify_reply s n rs =
    let r : Association = slice_index_or rs (index_by (is_of s) rs) no_association in
    cond (nat_lt (index_by (is_of s) rs) (length rs))
    (cond (newer_of n r.sequence) (Successful r.context_len r.context) StaleMove)
    empty_reply

-- to a packet with this command: a MOVE-notify alone is answered
abbrev pub reply_to : Command → Station → ℕ → List Association → Option Reply
reply_to AddNotify s n rs = None
reply_to MoveNotify s n rs = Some (notify_reply s n rs)
reply_to MoveResponse s n rs = None

-- the associations after a MOVE-response that closed a move. "SUCCESSFUL: a row of s numbered exactly n takes the context. STALE_MOVE:
-- a row of s numbered exactly n is removed."
unfoldable pub answered_by : ℕ → Station → ℕ → List ℕ → List Association → List Association
answered_by zero s n c rs = fill s n c rs
answered_by (suc t) s n c rs = dissociate_exactly s n rs
