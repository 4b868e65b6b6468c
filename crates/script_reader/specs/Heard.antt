-- What the code's structs mean: what a line of an event says, and the set-up.
use Rattle.std.specs.Prelude.{ℕ, ◌≡◌, refl, ◌-◌, Bool, true, false, cond, List, [], ◌∷◌, eqb, length, replicate}
use Rattle.std.specs.Prelude.{Option, None, Some}
use Rattle.lists.specs.Options.{case_option}
use Rattle.machine.specs.Stations.{Station}
use Rattle.structs.specs.declared.Kind.{Kind}
use Rattle.structs.specs.declared.Kind.TheVariants.{Who}
use Rattle.script.specs.Text.{lines}
use Rattle.script.specs.Put.{front_given}
use Rattle.script.specs.EventLine.{Said, said_of}
use Rattle.script.specs.SetUpLines.{Values, set_up_in}
use Rattle.script_reader.specs.declared.Heard as code
use Rattle.script_reader.specs.declared.Values as line
use Rattle.script_reader.specs.declared.Opening as opened

-- a line of an event: all but the octets of its context
pub record Heard : Type 0 where
  pub readable : Bool
  pub kind : Kind
  pub at : ℕ
  pub station : Station
  pub sequence : ℕ
  pub old : Option ℕ
  pub len : ℕ

-- an unreadable line: a who of no station, which changes nothing
unfoldable pub nothing_heard : Heard
nothing_heard = record { readable = false; kind = Who; at = 0; station = replicate 6 0; sequence = 0; old = None; len = 0 }

-- the code's, of a line that can be read or not
abbrev pub heard_as : Bool → code.Heard → Heard
heard_as readable r =
    record {
      readable = readable;
      kind = r.event.kind;
      at = r.event.at;
      station = r.event.station;
      sequence = r.event.sequence;
      old = r.event.old;
      len = r.context_len;
    }

-- what the reader answers
abbrev pub heard_from : Option code.Heard → Heard
heard_from None = nothing_heard
heard_from (Some r) = heard_as true r

pub nobody_asked : heard_from None ≡ record { readable = false; kind = Who; at = 0; station = 0 ∷ 0 ∷ 0 ∷ 0 ∷ 0 ∷ 0 ∷ []; sequence = 0; old = None; len = 0 }
unfolding nothing_heard
nobody_asked = refl

unfoldable pub heard_of : Said → Heard
heard_of x =
    record {
      readable = true;
      kind = x.kind;
      at = x.at;
      station = x.station;
      sequence = x.sequence;
      old = x.old;
      len = length x.context;
    }

unfoldable pub heard_in : List ℕ → Heard
heard_in l = case_option (said_of l) nothing_heard heard_of

-- and the lent array: the context at its front
unfoldable pub context_to : List ℕ → List ℕ → List ℕ
context_to l b = front_given (case_option (said_of l) None (λ x. Some x.context)) b

-- The set-up

-- what a line of values says, in the code's struct
abbrev pub values_from : Option line.Values → Option Values
values_from None = None
values_from (Some v) = Some (record { aps = v.aps; timeout = v.timeout; resends = v.resends })

-- a text without its first line
unfoldable pub past_line : List ℕ → List ℕ
past_line [] = []
past_line (x ∷ xs) = cond (eqb x 10) xs (past_line xs)

-- how many octets the first three lines have
unfoldable pub three_lines : List ℕ → ℕ
three_lines s = length s - length (past_line (past_line (past_line s)))

pub record Opening : Type 0 where
  pub given : Bool
  pub aps : ℕ
  pub timeout : ℕ
  pub resends : ℕ
  pub next : ℕ

-- where the three lines are bad, all 0
unfoldable pub nothing_opened : Opening
nothing_opened = record { given = false; aps = 0; timeout = 0; resends = 0; next = 0 }

abbrev pub opening_from : Option opened.Opening → Opening
opening_from None = nothing_opened
opening_from (Some r) = record { given = true; aps = r.aps; timeout = r.timeout; resends = r.resends; next = r.next }

-- the values of the first three lines of a script, and the place after these lines
unfoldable pub opening_in : List ℕ → Opening
opening_in s = case_option (set_up_in (lines s)) nothing_opened (λ v. record { given = true; aps = v.aps; timeout = v.timeout; resends = v.resends; next = three_lines s })
