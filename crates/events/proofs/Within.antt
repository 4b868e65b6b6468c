-- What a record to which 14 does not apply grants of its access points and packets.
-- Assumes nothing.
use Prim.Native.Nat.{ℕ, ◌≤◌, ◌<◌}
use mathlib.Core.Path.{◌≡◌, refl, subst}
use mathlib.Core.Bool.{Bool, true, ◌&&◌}
use mathlib.Core.List.{List, [], ◌∷◌, map}
use native.Mathlib.Omega.{arith}
use borrow.Author.Tests.{ltb-true, leb-true}
use lib.Dec.{ltb, leb}
use lib.ListN.{length, get_or, take}
use lib.Seq.{length-take-le}
use Rattle.lists.specs.Places.{every, All}
use Rattle.lists.proofs.Choices.{and_left, and_right, and_true}
use Rattle.lists.proofs.Every.{every_all}
use Rattle.lists.proofs.Search.{get_or_used}
use Rattle.structs.specs.declared.InFlight.{InFlight}
use Rattle.structs.specs.declared.Move.{Move}
use Rattle.machine.specs.Packets.{readable, octets_in}
use Rattle.machine.specs.Valid.{distinct, valid_association, valid_move, valid_point, valid_in_flight, valid_setup}
use Rattle.machine.proofs.Valid.{SetupIn, setup_in}
use Rattle.structs.specs.declared.AccessPoint.{AccessPoint}
use Rattle.record.specs.Lens.{named, get_point}
use Rattle.structs.specs.Lists.{get_associations, get_moves, get_in_flight}
use Rattle.record.specs.Valid.{valid_record, Usable}
use Rattle.record.proofs.ValidLaws.{valid_says, every_at}
use Rattle.structs.specs.declared.Network.{Network}
use Rattle.network.specs.Events.{valid_network_record}
use Rattle.network.proofs.LensLaws.{NetworkFits}
use Rattle.sending.specs.Sends.{sequence_within}

-- what a read past the end of the access points gives, in the logic
abbrev pub past : AccessPoint
past =
    record {
      associations = record { items = []; count = 0 };
      moves = record { items = []; count = 0 };
      next_identifier = 0;
      opened = 0;
      resent = 0;
      answered = 0;
      given_up = 0;
    }

-- the sequence numbers of moves within their limits
sequences_within : (k : ℕ) (ms : List Move) → every (valid_move k) (map named ms) ≡ true → every sequence_within ms ≡ true
unfolding every valid_move sequence_within named
sequences_within k [] e = refl
sequences_within k (m ∷ ms) e =
    let h = and_left (valid_move k (named m)) (every (valid_move k) (map named ms)) e in
    and_true _ _ (and_left (leb m.sequence 4095) _ h) (sequences_within k ms (and_right (valid_move k (named m)) (every (valid_move k) (map named ms)) e))

moves_within : (k : ℕ) (a : AccessPoint) → valid_record k a ≡ true → every sequence_within (get_moves a.moves) ≡ true
unfolding valid_record valid_point get_point
moves_within k a e =
    let p = and_right (leb a.moves.count 8) _ (and_right (leb a.associations.count 16) _ e) in
    let q = and_right (every valid_association (get_associations a.associations)) _ (and_right (leb (length (get_associations a.associations)) 16) _ p) in
    sequences_within k (get_moves a.moves) (and_right (leb (length (map named (get_moves a.moves))) 8) _ (and_right (distinct (get_associations a.associations)) _ q))

-- a packet within its limits
pub record PacketWithin (k : ℕ) (p : InFlight) : Type 0 where
  pub to : p.to < k
  pub size : p.len ≤ 82
  pub reads : readable (octets_in p) ≡ true

packet_says : (k : ℕ) (p : InFlight) → valid_in_flight k p ≡ true → PacketWithin k p
unfolding valid_in_flight
packet_says k p e =
    let q = and_right (ltb p.from k) _ e in
    let r = and_right (ltb p.to k) _ q in
    record { to = ltb-true p.to k (and_left _ _ q); size = leb-true p.len 82 (and_left _ _ r); reads = and_right (leb p.len 82) _ r }

-- the test in three parts: set-up, access points, packets
pub in_parts : (w : Network) (a b c : Bool) → valid_setup w.ap_count w.timeout w.resend_limit ≡ a
    → every (valid_record w.ap_count) (take w.ap_count w.points) ≡ b
    → leb w.in_flight.count 64 && every (valid_in_flight w.ap_count) (get_in_flight w.in_flight) ≡ c
    → a && (b && c) ≡ valid_network_record w
unfolding valid_network_record
in_parts w a b c e f g = rw (e, f, g)

module _ (w : Network) (z : NetworkFits w) (v : valid_network_record w ≡ true) where
  parts : every (valid_record w.ap_count) (take w.ap_count w.points) && (leb w.in_flight.count 64 && every (valid_in_flight w.ap_count) (get_in_flight w.in_flight)) ≡ true
  unfolding valid_network_record
  parts = and_right (valid_setup w.ap_count w.timeout w.resend_limit) _ v

  pub setup_within : SetupIn w.ap_count w.timeout w.resend_limit
  unfolding valid_network_record valid_setup
  setup_within = setup_in w.ap_count w.timeout w.resend_limit (and_left _ _ v)

  -- access point b
  pub point_valid : (b : ℕ) (d : AccessPoint) → b < w.ap_count → valid_record w.ap_count (get_or w.points b d) ≡ true
  point_valid b d l =
      subst (λ (a : AccessPoint). valid_record w.ap_count a ≡ true) (get_or_used w.ap_count w.points b d d l z.count)
      (every_at (valid_record w.ap_count) (take w.ap_count w.points) b d (and_left _ _ parts) (omega (arith, l, length-take-le w.ap_count w.points z.count)))

  pub usable_at : (b : ℕ) (d : AccessPoint) → b < w.ap_count → Usable (get_or w.points b d)
  usable_at b d l = valid_says w.ap_count (get_or w.points b d) (point_valid b d l)

  pub all_usable : All Usable (take w.ap_count w.points)
  all_usable = every_all (λ a f e. valid_says w.ap_count a e) z.points (and_left _ _ parts)

  pub moves_at : (b : ℕ) (d : AccessPoint) → b < w.ap_count → every sequence_within (get_moves (get_or w.points b d).moves) ≡ true
  moves_at b d l = moves_within w.ap_count (get_or w.points b d) (point_valid b d l)

  pub few_packets : w.in_flight.count ≤ 64
  few_packets = leb-true w.in_flight.count 64 (and_left _ _ (and_right (every (valid_record w.ap_count) (take w.ap_count w.points)) _ parts))

  -- packet i
  pub packet_at : (i : ℕ) (d : InFlight) → i < w.in_flight.count → PacketWithin w.ap_count (get_or w.in_flight.items i d)
  packet_at i d l =
      packet_says w.ap_count (get_or w.in_flight.items i d)
      (subst (λ (p : InFlight). valid_in_flight w.ap_count p ≡ true) (get_or_used w.in_flight.count w.in_flight.items i d d l z.air)
      (every_at (valid_in_flight w.ap_count) (get_in_flight w.in_flight) i d (and_right (leb w.in_flight.count 64) _ (and_right (every (valid_record w.ap_count) (take w.ap_count w.points)) _ parts)) (omega (arith, l, length-take-le w.in_flight.count w.in_flight.items z.air))))
