-- `floor_link::act` meets its contract: a who is looked up, and any other event changes the network.
-- Assumes nothing.
use mathlib.Core.Path.{refl, sym, ap, ◌∙◌}
use Rattle.std.specs.Prelude.{Result, Ok, Err}
use Rattle.answers.specs.declared.Refusal.{Refusal}
use Rattle.structs.specs.declared.Network.{Network}
use Rattle.floor_link.specs.declared.Line.{Line}
use Rattle.floor_link.specs.Answered.{Unchanged}
use Rattle.machine.specs.Events.{Event, step}
use Rattle.network.specs.Lens.{get}
use Rattle.network.specs.Events.{reply_of}
use Rattle.events.proofs.Asked.{asks}
use Rattle.floor_link.proofs.act.Goals as goal

-- who changes nothing, refused or not
same : (r : Result Line Refusal) (w : Network) → Unchanged r w w
same (Ok l) w = tt
same (Err x) w = refl

pub returns-then-is_who-clause-refused_value : goal.returns-then-is_who-clause-refused_value
returns-then-is_who-clause-refused_value c = same c.look_up.result c.args.network.now

pub returns-then-is_who-clause-reply_value : goal.returns-then-is_who-clause-reply_value
returns-then-is_who-clause-reply_value c =
    let e = c.args.e in
    let w = c.args.network.now in
    c.look_up.ensures
    ∙ ap (λ (x : Event). reply_of w (step (get w) 0 x)) (asks e.kind e.at e.station e.sequence e.old c.args.context.now (sym c.is_who.ensures ∙ c.if-is_who.true))

pub change-requires : goal.change-requires
change-requires c =
    record { network_value = c.requires; kind_value = sym c.is_who.ensures ∙ c.if-is_who.false }
