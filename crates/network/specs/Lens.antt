-- The record of a network and the machine's network: `get` takes the used parts, `put` writes them back. The slots that became
-- free are blank, and the others are kept, as are the access points past the AP count.
use Rattle.std.specs.Prelude.{ℕ, ◌≡◌, refl, List, [], ◌∷◌, map, length, take, replicate}
use Rattle.slots.specs.Lists.{over}
use Rattle.structs.specs.declared.InFlight.{InFlight}
use Rattle.machine.specs.AccessPoint as machine
use Rattle.machine.specs.Network as floor
use Rattle.structs.specs.declared.AccessPoint.{AccessPoint}
use Rattle.structs.specs.Blanks.{no_association, no_move, no_in_flight}
use Rattle.structs.specs.Lists.{get_in_flight, put_in_flight}
use Rattle.record.specs.Lens.{get_point, put_point}
use Rattle.structs.specs.declared.Network.{Network}

-- the access points: "The floor has 1..8 APs numbered from 0"

unfoldable pub put_points : List AccessPoint → List machine.AccessPoint → List AccessPoint
put_points xs [] = xs
put_points [] (p ∷ ps) = []
put_points (x ∷ xs) (p ∷ ps) = put_point x p ∷ put_points xs ps

-- the network

unfoldable pub get : Network → floor.Network
get w =
    record {
      points = map get_point (take w.ap_count w.points);
      in_flight = get_in_flight w.in_flight;
      timeout = w.timeout;
      resend_limit = w.resend_limit;
    }

unfoldable pub put : Network → floor.Network → Network
put w f =
    record {
      ap_count = length f.points;
      timeout = f.timeout;
      resend_limit = f.resend_limit;
      points = put_points w.points f.points;
      in_flight = put_in_flight w.in_flight f.in_flight;
    }

-- a new network

-- "all empty at first": every slot is blank
unfoldable pub new_point : AccessPoint
new_point =
    record {
      associations = record { items = replicate 16 no_association; count = 0 };
      moves = record { items = replicate 8 no_move; count = 0 };
      next_identifier = 0;
      opened = 0;
      resent = 0;
      answered = 0;
      given_up = 0;
    }

-- n APs, T = t and R = r
unfoldable pub new_network : ℕ → ℕ → ℕ → Network
new_network n t r =
    record {
      ap_count = n;
      timeout = t;
      resend_limit = r;
      points = replicate 8 new_point;
      in_flight = record { items = replicate 64 no_in_flight; count = 0 };
    }

-- examples, with a packet of one octet

abbrev packet : InFlight
packet = record { from = 0; to = 1; len = 1; octets = 7 ∷ replicate 81 0 }

pub new_blank : (new_network 2 1 0).in_flight.items ≡ replicate 64 no_in_flight
unfolding new_network
new_blank = refl

pub packets_put : get_in_flight (put (new_network 2 1 0) (record { points = []; in_flight = packet ∷ []; timeout = 1; resend_limit = 0 })).in_flight ≡ packet ∷ []
unfolding put over new_network
packets_put = refl
