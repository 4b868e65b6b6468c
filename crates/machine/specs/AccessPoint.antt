-- Document 01, "One access point", and the rules of the floor machine that concern one access point: what it does when a station
-- joins or leaves, when a packet is received, and at a tick. Each rule gives the access point's record afterwards and the
-- packets that it sends, in order.
use Rattle.std.specs.Prelude.{ℕ, zero, suc, ◌+◌, ◌%◌, Bool, true, false, cond, ◌&&◌, not, List, [], ◌∷◌, ◌++◌, ltb, leb, eqb, length, is_some}
use Rattle.std.specs.Prelude.{Option}
use Rattle.lists.specs.Table.{Test}
use Rattle.lists.specs.Options.{case_option}
use Rattle.sequence.specs.Distance.{newer_of}
use Rattle.structs.specs.declared.Association.{Association}
use Rattle.machine.specs.Stations.{Station}
use Rattle.machine.specs.Associations.{Context, given, association, sequence_of, held_context, context_octets, associate, dissociate, dissociate_older, dissociate_exactly, fill}
use Rattle.machine.specs.Packets.{Message, add_notify, move_notify, successful, stale_move, Packet, Outgoing}
use Rattle.machine.specs.Moves.{Open, Happened, nothing, Counts, counts_after, new_move, opening, notice_of, notices_of, earliest, close, answering, kept, resends, ticking}

-- "Each access point's record has up to 16 rows .., up to 8 open moves .., a next identifier .., and four counts"
pub record AccessPoint : Type 0 where
  pub associations : List Association
  pub moves : List Open
  pub next_identifier : ℕ
  pub counts : Counts

-- "all empty at first", "a next identifier starting at 0"
unfoldable pub new_point : AccessPoint
new_point =
    record { associations = []; moves = []; next_identifier = 0; counts = record { opened = 0; resent = 0; answered = 0; given_up = 0 } }

-- what an access point does: its record afterwards, the packets that it sends in order, and what happened to its moves
pub record Action : Type 0 where
  pub point : AccessPoint
  pub sends : List Outgoing
  pub happened : Happened

-- the record with other associations
unfoldable pub with_associations : List Association → AccessPoint → AccessPoint
with_associations rs a = record { associations = rs; moves = a.moves; next_identifier = a.next_identifier; counts = a.counts }

-- the record with other moves, and what happened to them counted
unfoldable pub with_moves : List Open → Happened → AccessPoint → AccessPoint
with_moves ms h a =
    record { associations = a.associations; moves = ms; next_identifier = a.next_identifier; counts = counts_after h a.counts }

-- "Using an identifier advances it by one", "from 65535 to 0"
unfoldable pub use_identifier : AccessPoint → AccessPoint
use_identifier a =
    record { associations = a.associations; moves = a.moves; next_identifier = (a.next_identifier + 1) % 65536; counts = a.counts }

-- nothing sent, and nothing happened to a move
unfoldable pub quietly : AccessPoint → Action
quietly a = record { point = a; sends = []; happened = nothing }

-- join

-- where the old AP of a join is: another AP of the floor, this AP, or none or not on the floor
pub data Origin : Type 0 where
  another : ℕ → Origin
  this : Origin
  nowhere : Origin

-- of a join at AP b of a floor of k
unfoldable pub origin_of : ℕ → ℕ → Option ℕ → Origin
origin_of k b old = case_option old nowhere (λ o. cond (eqb o b) this (cond (ltb o k) (another o) nowhere))

-- a move is needed where old is another AP of the floor
unfoldable pub needs_move : Origin → Bool
needs_move (another o) = true
needs_move this = false
needs_move nowhere = false

-- a join's refusals that are the AP's own, for station s and sequence n: "15: a row is there and n isn't newer; 16: no row and 16 rows;
-- 17: a move is needed and 8 are open"
abbrev pub join_tests : Origin → Station → ℕ → AccessPoint → List Test
join_tests o s n a =
    (case_option (sequence_of s a.associations) false (λ m. not (newer_of n m)), 15)
    ∷ (not (is_some (sequence_of s a.associations)) && leb 16 (length a.associations), 16)
    ∷ (needs_move o && leb 8 (length a.moves), 17)
    ∷ []

-- the row of s, numbered n, with the context x
unfoldable pub joined : Station → ℕ → Context → AccessPoint → AccessPoint
joined s n x a = with_associations (associate (association s n x) a.associations) a

-- "one ADD-notify .. to every other AP in rising number": to those but b from AP i on, k in all
unfoldable pub add_notifies : ℕ → Packet → ℕ → ℕ → List Outgoing
add_notifies b p i zero = []
add_notifies b p i (suc k) = cond (eqb i b) (add_notifies b p (suc i) k) (record { to = i; packet = p } ∷ add_notifies b p (suc i) k)

-- a join of s numbered n with the context c, at AP b of a floor of k APs, with T = t and R = r, at the place `name` of the list
unfoldable pub join_from : Origin → ℕ → ℕ → ℕ → ℕ → ℕ → Station → ℕ → List ℕ → AccessPoint → Action
-- "If old is another AP of the floor: context is kept if a row was there, else empty; a move opens with the next identifier, T
-- and R; MOVE-notify with empty context goes to old."
join_from (another o) k t r name b s n c a =
    let m = new_move name s n o a.next_identifier t r in
    record {
      point = with_moves (a.moves ++ (m ∷ [])) (opening m) (use_identifier (joined s n (held_context s a.associations) a));
      sends = notice_of m ∷ [];
      happened = opening m;
    }
-- "If old is this AP: context likewise, nothing sent."
join_from this k t r name b s n c a = quietly (joined s n (held_context s a.associations) a)
-- "If old is none or not on the floor: the row takes the given context, and one ADD-notify with the next identifier goes to every
-- other AP in rising number. All copies carry that one identifier, and it is used even where there is no other AP."
join_from nowhere k t r name b s n c a =
    record {
      point = use_identifier (joined s n (given c) a);
      sends = add_notifies b (record { identifier = a.next_identifier; station = s; sequence = n; message = add_notify }) 0 k;
      happened = nothing;
    }

-- leave: "its row there is removed; none there, nothing changes"
unfoldable pub leave_by : Station → AccessPoint → Action
leave_by s a = quietly (with_associations (dissociate s a.associations) a)

-- tick: "each open move in order loses one tick ..". "The row stays."
unfoldable pub tick_by : ℕ → AccessPoint → Action
tick_by t a =
    record {
      point = with_moves (kept t a.moves) (ticking t a.moves) a;
      sends = notices_of (resends t a.moves);
      happened = ticking t a.moves;
    }

-- Receiver, for station s and sequence n

-- "The answer copies identifier, station and n." It goes to the sender.
unfoldable pub answer_to : ℕ → Packet → Message → Outgoing
answer_to from p x =
    record { to = from; packet = record { identifier = p.identifier; station = p.station; sequence = p.sequence; message = x } }

-- an answer, from the record a
unfoldable pub answering_with : ℕ → Packet → Message → AccessPoint → Action
answering_with from p x a = record { point = a; sends = answer_to from p x ∷ []; happened = nothing }

-- "ADD-notify: a row of s is removed if n is newer than its number."
unfoldable pub receive_add : Packet → AccessPoint → Action
receive_add p a = quietly (with_associations (dissociate_older p.station p.sequence a.associations) a)

-- "MOVE-notify: no row: answer SUCCESSFUL, empty context. n newer: the row is removed, SUCCESSFUL with its context. Otherwise
-- STALE_MOVE, empty, row kept."
unfoldable pub receive_notify : ℕ → Packet → AccessPoint → Action
receive_notify from p a =
    case_option (sequence_of p.station a.associations)
    (answering_with from p (successful []) a)
    (λ m. cond (newer_of p.sequence m)
    (answering_with from p (successful (context_octets p.station a.associations)) (with_associations (dissociate p.station a.associations) a))
    (answering_with from p stale_move a))

-- "MOVE-response: it closes, as answered, the earliest opened move that agrees ..; with none, nothing happens": then the
-- associations become rs
unfoldable pub receive_response : ℕ → Packet → List Association → AccessPoint → Action
receive_response from p rs a =
    case_option (earliest from p a.moves) (quietly a)
    (λ m. record { point = with_moves (close from p a.moves) (answering m) (with_associations rs a); sends = []; happened = answering m })

unfoldable pub receive_by : Message → ℕ → Packet → AccessPoint → Action
receive_by add_notify from p a = receive_add p a
receive_by move_notify from p a = receive_notify from p a
-- "SUCCESSFUL: a row of s numbered exactly n takes the context."
receive_by (successful c) from p a = receive_response from p (fill p.station p.sequence c a.associations) a
-- "STALE_MOVE: a row of s numbered exactly n is removed."
receive_by stale_move from p a = receive_response from p (dissociate_exactly p.station p.sequence a.associations) a

-- a packet from the access point `from`
unfoldable pub receive : ℕ → Packet → AccessPoint → Action
receive from p a = receive_by p.message from p a
