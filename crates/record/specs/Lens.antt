-- The record and the machine's access point: `get` takes the used part of each array, `put` writes the lists back over the front
-- of the arrays, blanks the slots that became free and keeps the others.
use Rattle.std.specs.Prelude.{map}
use Rattle.structs.specs.declared.Move.{Move}
use Rattle.structs.specs.Lists.{get_associations, put_associations, get_moves, put_moves}
use Rattle.machine.specs.Moves.{Open}
use Rattle.machine.specs.AccessPoint as machine
use Rattle.machine.specs.Lone as lone
use Rattle.structs.specs.declared.AccessPoint.{AccessPoint}
use Rattle.structs.specs.declared.LoneAccessPoint.{LoneAccessPoint}

-- the machine names its moves for the history; a record's moves have no name

unfoldable pub named : Move → Open
named m = record { move = m; name = 0 }

unfoldable pub bare : Open → Move
bare m = m.move

-- one access point

unfoldable pub get_point : AccessPoint → machine.AccessPoint
get_point a =
    record {
      associations = get_associations a.associations;
      moves = map named (get_moves a.moves);
      next_identifier = a.next_identifier;
      counts = record { opened = a.opened; resent = a.resent; answered = a.answered; given_up = a.given_up };
    }

unfoldable pub put_point : AccessPoint → machine.AccessPoint → AccessPoint
put_point a p =
    record {
      associations = put_associations a.associations p.associations;
      moves = put_moves a.moves (map bare p.moves);
      next_identifier = p.next_identifier;
      opened = p.counts.opened;
      resent = p.counts.resent;
      answered = p.counts.answered;
      given_up = p.counts.given_up;
    }

-- one access point alone

unfoldable pub get_lone : LoneAccessPoint → lone.LoneAccessPoint
get_lone l =
    record { point = get_point l.point; number = l.number; ap_count = l.ap_count; timeout = l.timeout; resend_limit = l.resend_limit }

unfoldable pub put_lone : LoneAccessPoint → lone.LoneAccessPoint → LoneAccessPoint
put_lone l x =
    record { point = put_point l.point x.point; number = x.number; ap_count = x.ap_count; timeout = x.timeout; resend_limit = x.resend_limit }
