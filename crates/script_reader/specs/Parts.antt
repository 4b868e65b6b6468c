-- What the private functions answer: a line that may be unreadable.
use Rattle.std.specs.Prelude.{ℕ, List}
use Rattle.std.specs.Prelude.{Option, None, Some}
use Rattle.lists.specs.Options.{case_option}
use Rattle.script.specs.Put.{front_given}
use Rattle.script.specs.EventLine.{Said}
use Rattle.script_reader.specs.Heard.{Heard, nothing_heard, heard_of}

-- what is heard of what a line says, if it says anything
abbrev pub heard_said : Option Said → Heard
heard_said o = case_option o nothing_heard heard_of

-- and the lent array
abbrev pub context_said : Option Said → List ℕ → List ℕ
context_said o b = front_given (case_option o None (λ x. Some x.context)) b
