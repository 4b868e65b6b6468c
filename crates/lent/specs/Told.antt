-- A network's events as a caller lends its record: what the code's structs mean, and set-up over a record that is there already.
use Rattle.std.specs.Prelude.{ℕ, cond, take}
use Rattle.machine.specs.Valid.{valid_setup}
use Rattle.machine.specs.Events as machine
use Rattle.structs.specs.declared.Network.{Network}
use Rattle.network.specs.Lens.{new_network}
use Rattle.network.specs.Events as floor
use Rattle.events.specs.Event.{event_from}
use Rattle.floor_link.specs.Answered.{answer_alone}
use Rattle.lent.specs.declared.Asked.{Asked}
use Rattle.lent.specs.declared.Line.{Line}
use Rattle.lent.specs.declared.Outcome.{Outcome}

-- ANSWER, SENT, GIVENUP, HELD and TABLES
abbrev pub numbers_of : Line → floor.Line
numbers_of l = record { answer = l.answer; sent = l.sent; given_up = l.given_up; held = l.held; tables = l.tables }

-- a line and the network after the call
abbrev pub lent_of : Line → Network → floor.Reply
lent_of l w = record { line = numbers_of l; network = w }

abbrev pub told_of : Outcome → floor.Reply
told_of r = lent_of r.line r.network

-- "Whoever sets up: 14", and then the record w as it came; else n APs, "all empty at first", with T = t and R = r
unfoldable pub set_up_over : Network → ℕ → ℕ → ℕ → floor.Reply
set_up_over w n t r =
    cond (valid_setup n t r) (record { line = answer_alone 0; network = new_network n t r }) (record { line = answer_alone 14; network = w })

-- what is asked
abbrev pub asked_of : Asked → machine.Event
asked_of q = event_from q.event (take q.len q.context)
