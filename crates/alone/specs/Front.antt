-- The packets of an outbox, written one after the other at the front of a lent buffer: what the functions below the calls promise.
use Rattle.std.specs.Prelude.{ℕ, ◌≤◌, ◌≡◌, cond, List, map, ltb, length}
use Rattle.std.specs.List.{flat_map}
use Rattle.lists.specs.Table.{accepts}
use Rattle.lists.specs.Places.{All}
use Rattle.structs.specs.declared.InFlight.{InFlight}
use Rattle.machine.specs.Associations.{padded}
use Rattle.machine.specs.Packets.{Outgoing, octets_in, carried}
use Rattle.structs.specs.declared.LoneAccessPoint.{LoneAccessPoint}
use Rattle.access_point.specs.Outside.{with_record}
use Rattle.actions.specs.Done.{Done}
use Rattle.structs.specs.declared.Outbox.{Outbox}
use Rattle.in_flight.specs.Post.{outbox_of}
use Rattle.structs.specs.Lists.{get_outbox}
use Rattle.alone.specs.declared.Reply.{Reply}
use Rattle.alone.specs.Told.{Told, told_of, reply_with, front_of}

-- the used octets of packets, one after the other
abbrev pub octets_in_all : List InFlight → List ℕ
octets_in_all ps = flat_map octets_in ps

-- how many octets of a packet are used
abbrev pub len_of : InFlight → ℕ
len_of p = p.len

-- the receiver of a packet
abbrev pub receiver : InFlight → ℕ
receiver p = p.to

-- the octets of an outbox
unfoldable pub outbox_octets : Outbox → List ℕ
outbox_octets o = octets_in_all (get_outbox o)

-- its receivers, in eight places
unfoldable pub outbox_receivers : Outbox → List ℕ
outbox_receivers o = padded 8 (map receiver (get_outbox o))

-- a packet of 82 octets at most
pub record Sized (p : InFlight) : Type 0 where
  pub used : p.len ≤ 82
  pub slots : length p.octets ≡ 82

-- an outbox of eight such packets at most
pub record Packed (o : Outbox) : Type 0 where
  pub count : o.count ≤ 8
  pub slots : length o.items ≡ 8
  pub sizes : All Sized (get_outbox o)

-- an outbox with what an AP sends
pub record Sends (o : Outbox) : Type 0 where
  pub from : ℕ
  pub sends : List Outgoing
  pub same : o ≡ outbox_of (map (carried from) sends)

-- the reply, and what the buffer then holds
pub record Posted : Type 0 where
  pub reply : Reply
  pub buffer : List ℕ

abbrev pub posted_of : Reply → List ℕ → Posted
posted_of r b = record { reply = r; buffer = b }

-- answered n, with the packets o and g moves given up: 10 where they do not fit the buffer b; refused, b is as it came
unfoldable pub posted_into : ℕ → Outbox → ℕ → List ℕ → Posted
posted_into n o g b =
    cond (accepts n)
    (cond (ltb (length b) (length (outbox_octets o))) (posted_of (reply_with 10) b)
    (posted_of (record { answer = 0; sent = o.count; given_up = g; held = 0; to = outbox_receivers o; len = length (outbox_octets o) }) (front_of (outbox_octets o) b)))
    (posted_of (reply_with n) b)

-- the AP alone l did d, whose packets were posted as p: a reply that refuses leaves the record as it came
abbrev pub tell : LoneAccessPoint → Done → Posted → Told
tell l d p = told_of (record { lone = cond (accepts p.reply.answer) (with_record d.point l) l; reply = p.reply }) p.buffer
