-- What the code's structs mean: what an event and set-up answer, in document 01's numbers.
use Rattle.std.specs.Prelude.{ℕ, cond, ◌≡◌, Result, Ok, Err}
use Rattle.answers.specs.declared.Refusal.{Refusal}
use Rattle.answers.specs.Numbers.{refusal_number}
use Rattle.machine.specs.Valid.{valid_setup}
use Rattle.structs.specs.declared.Network.{Network}
use Rattle.network.specs.Lens.{new_network}
use Rattle.network.specs.Events as floor
use Rattle.floor_link.specs.declared.Line.{Line}
use Rattle.floor_link.specs.declared.Reply.{Reply}

-- a line with nothing but its answer: "every other number of the answer 0"
abbrev pub answer_alone : ℕ → floor.Line
answer_alone n = record { answer = n; sent = 0; given_up = 0; held = 0; tables = 0 }

-- a line with its answer
abbrev pub line_with : ℕ → Line → floor.Line
line_with n l = record { answer = n; sent = l.sent; given_up = l.given_up; held = l.held; tables = l.tables }

abbrev pub line_from : Result Line Refusal → floor.Line
line_from (Ok l) = line_with 0 l
line_from (Err r) = answer_alone (refusal_number r)

-- an event on a record that is changed where it stands, and is w then
abbrev pub reply_at : Network → Result Line Refusal → floor.Reply
reply_at w r = record { line = line_from r; network = w }

-- refused, the record f is the record w as it came
abbrev pub Unchanged : Result Line Refusal → Network → Network → Type 0
Unchanged (Ok l) f w = Unit {0}
Unchanged (Err r) f w = f ≡ w

-- what an event answers
abbrev pub told_line : Result Reply Refusal → floor.Line
told_line (Ok r) = line_from (Ok r.line)
told_line (Err e) = line_from (Err e)

-- the network after an event on w. A refusal "changes neither record nor buffer"
abbrev pub network_after : Network → Result Reply Refusal → Network
network_after w (Ok r) = r.network
network_after w (Err e) = w

abbrev pub reply_from : Network → Result Reply Refusal → floor.Reply
reply_from w r = record { line = told_line r; network = network_after w r }

-- set-up: the answer and the network
pub record Started : Type 0 where
  pub answer : ℕ
  pub network : Network

-- refused, no network is handed out: one of no APs, which every call refuses, stands for it
abbrev pub set_up_of : Result Network Refusal → Started
set_up_of (Ok w) = record { answer = 0; network = w }
set_up_of (Err r) = record { answer = refusal_number r; network = new_network 0 0 0 }

-- "Whoever sets up: 14"; else n APs, "all empty at first", with T = t and R = r. Refused, a network of no APs
unfoldable pub set_up_done : ℕ → ℕ → ℕ → Started
set_up_done n t r =
    cond (valid_setup n t r) (record { answer = 0; network = new_network n t r }) (record { answer = 14; network = new_network 0 0 0 })
