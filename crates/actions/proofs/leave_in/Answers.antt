-- `actions::leave_in` meets its contract: each refusal is told by the tests before it; accepted, the association goes.
-- Assumes nothing.
use mathlib.Core.Path.{sym, ◌∙◌}
use Rattle.excerpt.specs.Excerpts.{Seen}
use Rattle.actions.proofs.Laws.{leave_off, leave_group, leave_done}
use Rattle.actions.proofs.leave_in.Goals as goal

pub returns-then-ap_count-at-clause-done : goal.returns-then-ap_count-at-clause-done
returns-then-ap_count-at-clause-done c =
    leave_off c.args.at c.args.ap_count c.args.station c.args.a.now c.if-ap_count-at.true

pub returns-then-is_group-clause-done : goal.returns-then-is_group-clause-done
returns-then-is_group-clause-done c =
    leave_group c.args.at c.args.ap_count c.args.station c.args.a.now c.if-ap_count-at.false (sym c.is_group.ensures ∙ c.if-is_group.true)

pub store-requires : goal.store-requires
store-requires c =
    let seen : Seen c.args.station c.args.a.now c.of.result =
    record { usable = c.requires.0; rows = c.requires.1.associations; moves = c.requires.1.moves; same = c.of.ensures } in
    (c.requires.0.associations, c.leave-left.ensures.allowed c.args.station c.args.a.now seen)

pub returns-clause-done : goal.returns-clause-done
returns-clause-done c =
    let seen : Seen c.args.station c.args.a.now c.of.result =
    record { usable = c.requires.0; rows = c.requires.1.associations; moves = c.requires.1.moves; same = c.of.ensures } in
    leave_done c.args.at c.args.ap_count c.args.station c.args.a.now c.if-ap_count-at.false (sym c.is_group.ensures ∙ c.if-is_group.false) _ (c.store.ensures ∙ c.leave-left.ensures.result_value c.args.station c.args.a.now seen)
