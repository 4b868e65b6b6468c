-- What a record holds past its used parts, if nothing was left behind there.
use Rattle.std.specs.Prelude.{ℕ, ◌≡◌, List, take, drop}
use Rattle.lists.specs.Places.{All}
use Rattle.structs.specs.declared.Association.{Association}
use Rattle.structs.specs.declared.InFlight.{InFlight}
use Rattle.structs.specs.declared.AccessPoint.{AccessPoint}
use Rattle.structs.specs.Blanks.{no_association, no_move}
use Rattle.structs.specs.Lists.{get_associations, get_in_flight}
use Rattle.structs.specs.declared.Network.{Network}
use Rattle.structs.specs.Blanks.{no_in_flight}
use Rattle.network.specs.Lens.{new_point}

-- of an array of which k slots are used, the others hold b
abbrev pub BlankPast : {A : Type 0} → A → ℕ → List A → Type 0
BlankPast {A} b k xs = All (λ (x : A). x ≡ b) (drop k xs)

-- the octets past a context, and past a packet, are zero

abbrev pub CleanContext : Association → Type 0
CleanContext r = BlankPast 0 r.context_len r.context

abbrev pub CleanPacket : InFlight → Type 0
CleanPacket p = BlankPast 0 p.len p.octets

pub record CleanPoint (a : AccessPoint) : Type 0 where
  pub associations : BlankPast no_association a.associations.count a.associations.items
  pub contexts : All CleanContext (get_associations a.associations)
  pub moves : BlankPast no_move a.moves.count a.moves.items

pub record Clean (w : Network) : Type 0 where
  pub points : All CleanPoint (take w.ap_count w.points)
  -- the access points past the AP count are as new
  pub beyond : BlankPast new_point w.ap_count w.points
  pub in_flight : BlankPast no_in_flight w.in_flight.count w.in_flight.items
  pub packets : All CleanPacket (get_in_flight w.in_flight)
