-- What a record within document 01's limits holds, part by part: what the types of a call grant (six octets below 256, arrays of
-- their size) and what refusal 14 asks.
-- Assumes nothing.
use Prim.Native.Nat.{ℕ, zero, suc, ◌<◌, ◌≤◌, ◌+◌, ◌%◌}
use mathlib.Core.Bool.{true}
use mathlib.Core.Path.{◌≡◌, refl, sym, ap, subst}
use mathlib.Core.List.{List, [], ◌∷◌}
use Rattle.std.specs.Prelude.{None, Some}
use lib.ListN.{length, take, drop}
use lib.Seq.{take-append_seam}
use native.Mathlib.Omega.{arith}
use borrow.Author.Tests.{eqb-true}
use Rattle.lists.proofs.Bools.{by_cond}
use Rattle.lists.proofs.Choices.{some_inj}
use Rattle.lists.specs.Places.{All, nil, cons}
use Rattle.lists.proofs.Every.{all_take, all_drop}
use Rattle.reader.specs.Read.{read_of, context_of}
use Rattle.structs.specs.declared.Association.{Association}
use Rattle.structs.specs.declared.InFlight.{InFlight}
use Rattle.machine.specs.Stations.{Station, same}
use Rattle.machine.specs.Associations.{padded, Context, given, sequence_of, held_context, context_octets}
use Rattle.machine.specs.Packets.{Message, add_notify, move_notify, successful, stale_move, Packet, Outgoing, fields_as, written, carried, message_of, packet_of, readable, packet_in, octets_in}
use Rattle.machine.specs.Moves.{Open}
use Rattle.machine.specs.AccessPoint.{AccessPoint, Action}
use Rattle.machine.specs.Network.{Network, access_point_at}
use Rattle.machine.specs.Events.{Octet, StationIn}
use Rattle.machine.proofs.Wire.{context_in, Sendable, carried_octets, sent_readable, written_size, padded_octets, padded_length, take_short, ReadIn, read_in, FieldsIn, fields_octets}

-- An array of n octets of which k are used. C says that the network was reached from a new one: then the unused octets are
-- zero and the counts agree. A lent record need not be so.
pub record ArrayIn (C : Type 0) (n k : ℕ) (xs : List ℕ) : Type 0 where
  pub used : k ≤ n
  pub size : length xs ≡ n
  pub octets : All Octet xs
  pub clean : C → xs ≡ padded n (take k xs)

pub record AssociationIn (C : Type 0) (r : Association) : Type 0 where
  pub station : StationIn r.station
  pub sequence : r.sequence ≤ 4095
  pub context : ArrayIn C 64 r.context_len r.context

pub record MoveIn (n : ℕ) (m : Open) : Type 0 where
  pub station : StationIn m.move.station
  pub sequence : m.move.sequence ≤ 4095
  pub old : m.move.old < n
  pub identifier : m.move.identifier ≤ 65535
  pub ticks : 1 ≤ m.move.ticks_left
  pub long : m.move.ticks_left ≤ 65535
  pub resends : m.move.resends_left ≤ 7

-- a list of at most 64 octets
pub record ContextIn (c : List ℕ) : Type 0 where
  pub size : length c ≤ 64
  pub octets : All Octet c

pub record PacketIn (p : Packet) : Type 0 where
  pub identifier : p.identifier ≤ 65535
  pub station : StationIn p.station
  pub sequence : p.sequence ≤ 4095
  pub context : ContextIn (context_in p.message)

pub record OutgoingIn (n : ℕ) (x : Outgoing) : Type 0 where
  pub to : x.to < n
  pub packet : PacketIn x.packet

pub record InFlightIn (C : Type 0) (n : ℕ) (w : InFlight) : Type 0 where
  pub from : w.from < n
  pub to : w.to < n
  pub octets : ArrayIn C 82 w.len w.octets
  pub reads : readable (octets_in w) ≡ true

-- one row for a station
abbrev pub Distinct : List Association → Type 0
Distinct [] = Unit {0}
Distinct (r ∷ rs) = (sequence_of r.station rs ≡ None) × Distinct rs

-- opened = answered + given up + open, modulo 4294967296
abbrev pub Balanced : AccessPoint → Type 0
Balanced a = a.counts.opened ≡ (a.counts.answered + a.counts.given_up + length a.moves) % 4294967296

pub record PointIn (C : Type 0) (n : ℕ) (a : AccessPoint) : Type 0 where
  pub associations : All (AssociationIn C) a.associations
  pub distinct : Distinct a.associations
  pub table : length a.associations ≤ 16
  pub moves : All (MoveIn n) a.moves
  pub few : length a.moves ≤ 8
  pub next : a.next_identifier ≤ 65535
  pub balance : C → Balanced a

pub record ActionIn (C : Type 0) (n : ℕ) (x : Action) : Type 0 where
  pub point : PointIn C n x.point
  pub sends : All (OutgoingIn n) x.sends

pub record Valid (C : Type 0) (n : ℕ) (f : Network) : Type 0 where
  pub count : length f.points ≡ n
  pub timeout : (1 ≤ f.timeout) × (f.timeout ≤ 65535)
  pub limit : f.resend_limit ≤ 7
  pub points : (b : ℕ) → PointIn C n (access_point_at f b)
  pub air : All (InFlightIn C n) f.in_flight
  pub full : length f.in_flight ≤ 64

-- what is made of a packet, and what is read of one

pub nil_context : ContextIn []
nil_context = record { size = omega arith; octets = nil }

pub given_in : {C : Type 0} (c : List ℕ) → ContextIn c → ArrayIn C 64 (given c).len (given c).octets
unfolding given padded
given_in c h =
    record {
      used = h.size;
      size = unfold padded in padded_length 64 c h.size;
      octets = padded_octets 64 c h.octets;
      clean = λ x. ap (padded 64) (sym (take-append_seam c _));
    }

pub sendable : (p : Packet) → PacketIn p → Sendable p
sendable p h = record { station = h.station.size; sequence = h.sequence; context = h.context.size }

fields_in : (x : Message) (p : Packet) → PacketIn p → ContextIn (context_in x) → FieldsIn (fields_as x p)
unfolding fields_as
fields_in add_notify p h c = record { command = omega arith; identifier = h.identifier; status = omega arith; octets = h.station.octets; sequence = h.sequence; size = omega arith; context = nil }
fields_in move_notify p h c = record { command = omega arith; identifier = h.identifier; status = omega arith; octets = h.station.octets; sequence = h.sequence; size = omega arith; context = nil }
fields_in (successful x) p h c = record { command = omega arith; identifier = h.identifier; status = omega arith; octets = h.station.octets; sequence = h.sequence; size = c.size; context = c.octets }
fields_in stale_move p h c = record { command = omega arith; identifier = h.identifier; status = omega arith; octets = h.station.octets; sequence = h.sequence; size = omega arith; context = nil }

-- what is sent, test 14 accepts
pub carried_in : {C : Type 0} {n : ℕ} (from : ℕ) (x : Outgoing) → from < n → OutgoingIn n x → InFlightIn C n (carried from x)
carried_in from x l h =
    let p = x.packet in
    let w = sendable p h.packet in
    record {
      from = unfold carried in l;
      to = unfold carried in h.to;
      octets = unfold carried in record {
        used = written_size p w;
        size = padded_length 82 (written p) (written_size p w);
        octets = padded_octets 82 (written p) (unfold written in fields_octets (fields_as p.message p) (fields_in p.message p h.packet h.packet.context));
        clean = λ z. unfold padded in ap (padded 82) (sym (take-append_seam (written p) _));
      };
      reads = rw (carried_octets from x) (sent_readable p w);
    }

message_context : (c t : ℕ) (x : List ℕ) → ContextIn x → ContextIn (context_in (message_of c t x))
unfolding message_of
message_context zero t x h = nil_context
message_context (suc zero) t x h = nil_context
message_context (suc (suc c)) zero x h = h
message_context (suc (suc c)) (suc t) x h = nil_context

-- what the reader takes octets for
pub packet_in_lem : (s : List ℕ) → All Octet s → (read_of s).answer ≡ 0 → PacketIn (packet_of (read_of s) (context_of s))
unfolding packet_of
packet_in_lem s o e =
    let r : ReadIn (read_of s) = read_in s o e in
    record {
      identifier = r.identifier;
      station = record { size = r.station; octets = r.octets };
      sequence = r.sequence;
      context = message_context (read_of s).command (read_of s).status (context_of s) (unfold context_of in record {
        size = omega (arith, take_short (read_of s).len (drop (read_of s).start s), r.len);
        octets = all_take (read_of s).len (all_drop (read_of s).start o);
      });
    }

pub opened_in : {C : Type 0} {n : ℕ} (w : InFlight) (p : Packet) → InFlightIn C n w → packet_in (octets_in w) ≡ Some p → PacketIn p
unfolding packet_in readable
opened_in w p h e =
    subst PacketIn (some_inj refl (rw h.reads at e))
    (packet_in_lem (octets_in w) (unfold octets_in in all_take w.len h.octets.octets) (eqb-true _ 0 h.reads))

pub held_in : {C : Type 0} (s : Station) (rs : List Association) → All (AssociationIn C) rs → ArrayIn C 64 (held_context s rs).len (held_context s rs).octets
unfolding held_context
held_in s [] nil = given_in [] nil_context
held_in {C} s (r ∷ rs) (cons h hs) = by_cond (λ (c : Context). ArrayIn C 64 c.len c.octets) (same s r.station) (λ q. h.context) (λ q. held_in s rs hs)

pub context_in_lem : {C : Type 0} (s : Station) (rs : List Association) → All (AssociationIn C) rs → ContextIn (context_octets s rs)
unfolding context_octets
context_in_lem s rs h =
    let a = held_in s rs h in
    record { size = omega (arith, take_short (held_context s rs).len (held_context s rs).octets, a.used); octets = all_take (held_context s rs).len a.octets }
