-- The packet and the access point that an event looks at are there.
-- Assumes nothing.
use Prim.Native.Nat.{ℕ, ◌≤◌, ◌<◌}
use mathlib.Core.Path.{◌≡◌, refl}
use mathlib.Core.Bool.{true, cond}
use native.Mathlib.Omega.{arith}
use borrow.Author.Tests.{ltb-true}
use lib.Dec.{ltb}
use lib.ListN.{get_or}
use Rattle.lists.proofs.Bools.{by_cond}
use Rattle.lists.proofs.Choices.{not_both}
use Rattle.structs.specs.declared.InFlight.{InFlight}
use Rattle.machine.specs.Packets.{readable, octets_in}
use Rattle.structs.specs.declared.Network.{Network}
use Rattle.network.specs.Events.{valid_network_record}
use Rattle.network.proofs.LensLaws.{NetworkFits}
use Rattle.structs.specs.declared.Kind.{Kind}
use Rattle.structs.specs.declared.Kind.TheVariants.{Join, Leave, Deliver, Repeat, Lose, Tick, Who}
use Rattle.events.specs.Apart.{packet_for, point_for, taken_for}
use Rattle.events.proofs.Within.{packet_at, setup_within}

-- a number below m, or 0
below : (at m k : ℕ) → (at < m → at < k) → 0 < k → cond (ltb at m) at 0 < k
below at m k f z = by_cond (λ (i : ℕ). i < k) (ltb at m) (λ e. f (ltb-true at m e)) (λ e. z)

-- the packet's place, within any k that 0 and all m places are within
packet_below : (kind : Kind) (at m k : ℕ) → (at < m → at < k) → 0 < k → packet_for kind at m < k
packet_below Join at m k f z = z
packet_below Leave at m k f z = z
packet_below Deliver at m k f z = below at m k f z
packet_below Repeat at m k f z = below at m k f z
packet_below Lose at m k f z = below at m k f z
packet_below Tick at m k f z = z
packet_below Who at m k f z = z

-- there are 64 slots
pub packet_slot : (kind : Kind) (at m : ℕ) → m ≤ 64 → packet_for kind at m < 64
packet_slot kind at m h = packet_below kind at m 64 (λ l. omega arith) (omega arith)

-- with a packet of that number, it is one in flight
pub packet_there : (kind : Kind) (at m : ℕ) → at < m → packet_for kind at m < m
packet_there kind at m l = packet_below kind at m m (λ h. h) (omega arith)

pub taken_there : (kind : Kind) (at m : ℕ) → taken_for kind at m ≡ true → packet_for kind at m < m
taken_there Deliver at m e = packet_there Deliver at m (ltb-true at m e)
taken_there Lose at m e = packet_there Lose at m (ltb-true at m e)
taken_there Join at m e = not_both e refl
taken_there Leave at m e = not_both e refl
taken_there Repeat at m e = not_both e refl
taken_there Tick at m e = not_both e refl
taken_there Who at m e = not_both e refl

-- the access point that acts is on the floor
pub point_below : (kind : Kind) (at n m to : ℕ) → 0 < n → (at < m → to < n) → point_for kind at n m to < n
point_below Join at n m to z f = below at n n (λ h. h) z
point_below Leave at n m to z f = below at n n (λ h. h) z
point_below Deliver at n m to z f = by_cond (λ (i : ℕ). i < n) (ltb at m) (λ e. f (ltb-true at m e)) (λ e. z)
point_below Repeat at n m to z f = by_cond (λ (i : ℕ). i < n) (ltb at m) (λ e. f (ltb-true at m e)) (λ e. z)
point_below Lose at n m to z f = z
point_below Tick at n m to z f = below at n n (λ h. h) z
point_below Who at n m to z f = z

module _ (w : Network) (z : NetworkFits w) (v : valid_network_record w ≡ true) (kind : Kind) (at : ℕ) (d : InFlight) where
  -- the packet that is looked at
  abbrev packet : InFlight
  packet = get_or w.in_flight.items (packet_for kind at w.in_flight.count) d

  pub packet_reads : at < w.in_flight.count → (packet.len ≤ 82) × (readable (octets_in packet) ≡ true)
  packet_reads l =
      let h = packet_at w z v (packet_for kind at w.in_flight.count) d (packet_there kind at w.in_flight.count l) in
      (h.size, h.reads)

  pub point_there : point_for kind at w.ap_count w.in_flight.count packet.to < w.ap_count
  point_there =
      point_below kind at w.ap_count w.in_flight.count packet.to (omega (arith, (setup_within w z v).count.0))
      (λ l. (packet_at w z v (packet_for kind at w.in_flight.count) d (packet_there kind at w.in_flight.count l)).to)
