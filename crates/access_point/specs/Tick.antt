-- A tick at one access point's record: the definition that the contract cites.
use Rattle.std.specs.Prelude.{ℕ, map, length}
use Rattle.machine.specs.Moves.{resends}
use Rattle.machine.specs.AccessPoint.{tick_by}
use Rattle.structs.specs.declared.AccessPoint.{AccessPoint}
use Rattle.record.specs.Lens.{named, bare, get_point, put_point}
use Rattle.structs.specs.Lists.{no_moves, get_moves, put_moves}
use Rattle.access_point.specs.declared.Ticking.{Ticking}
use Rattle.access_point.specs.declared.Lapsed.{Lapsed}

-- what the machine's access point does, put back into the record: the record afterwards, the moves that are sent again, in order, and
-- how many were given up. The notices of those moves are what the machine's tick sends (`due_sends` in proofs/Ticks.antt).
unfoldable pub tick_done : ℕ → AccessPoint → Ticking
tick_done t a =
    record {
      point = put_point a (tick_by t (get_point a)).point;
      due = put_moves no_moves (map bare (resends t (map named (get_moves a.moves))));
      given_up = length (tick_by t (get_point a)).happened.given_up;
    }

-- the record a afterwards, and what the tick that changed it sends again and gives up
abbrev pub ticking_of : AccessPoint → Lapsed → Ticking
ticking_of a x = record { point = a; due = x.due; given_up = x.given_up }
