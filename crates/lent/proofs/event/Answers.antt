-- `lent::event` meets its contract: of a context of more than 64 octets, 65 are enough.
-- Assumes nothing.
use Rattle.std.proofs.Common.{ℕ, ◌≡◌, List, length, take, ap, ◌∙◌, arith}
use Rattle.network.specs.Events.{event_of}
use Rattle.events.specs.Event.{event_from}
use Rattle.lent.proofs.Contexts.{cut}
use Rattle.lent.proofs.event.Goals as goal

pub returns : goal.returns
returns c =
    let x = c.args.q.context in
    let l : length x ≡ 65 = omega arith in
    let e : take c.min-len.result x ≡ take c.args.q.len x = ap (λ (k : ℕ). take k x) c.min-len.ensures ∙ cut c.args.q.len x l in
    c.in_numbers.ensures ∙ c.event.ensures ∙ ap (λ (d : List ℕ). event_of c.args.network (event_from c.args.q.event d)) e
