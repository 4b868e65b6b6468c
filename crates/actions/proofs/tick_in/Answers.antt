-- `actions::tick_in` meets its contract: the notices of the moves that are due are what the machine sends.
-- Assumes nothing.
use mathlib.Core.Path.{ap, ◌∙◌}
use Rattle.lists.specs.Places.{every}
use Rattle.structs.specs.Lists.{get_moves}
use Rattle.access_point.specs.declared.Ticking.{Ticking}
use Rattle.access_point.proofs.Ticks.{due_few}
use Rattle.access_point.specs.Tick.{ticking_of, tick_done}
use Rattle.sending.specs.Sends.{sequence_within}
use Rattle.actions.proofs.Laws.{tick_off, due_within, tick_done_lem}
use Rattle.actions.proofs.tick_in.Goals as goal
use Rattle.structs.specs.declared.Outbox.{Outbox}

pub returns-then-ap_count-at-clause-done : goal.returns-then-ap_count-at-clause-done
returns-then-ap_count-at-clause-done c =
    tick_off c.args.at c.args.ap_count c.args.timeout c.args.a.now c.if-ap_count-at.true

pub resend-requires : goal.resend-requires
unfolding tick_done
resend-requires c =
    let a = c.args.a.now in
    let d = ap (λ (x : Ticking). x.due) c.tick_in-t.ensures in (
      due_few c.args.timeout a _ (record { associations = c.requires.usable.1.associations; moves = c.requires.usable.1.moves }) c.requires.usable.0.moves d,
      ap (λ m. every sequence_within (get_moves m)) d ∙ due_within c.args.timeout a c.requires.moves_value,
    )

pub returns-clause-done : goal.returns-clause-done
returns-clause-done c =
    let t = ticking_of c.tick_in-t.new.a c.tick_in-t.result in
    ap (λ (o : Outbox). record { answer = 0; point = t.point; sent = o; given_up = t.given_up }) c.resend.ensures
    ∙ tick_done_lem c.args.at c.args.ap_count c.args.timeout c.args.a.now c.if-ap_count-at.false t c.tick_in-t.ensures
