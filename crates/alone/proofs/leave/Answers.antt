-- `alone::leave` meets its contract: 14, 13, or the association goes.
-- Assumes nothing.
use mathlib.Core.Path.{◌≡◌, sym, ap, ◌∙◌}
use mathlib.Core.Bool.{true}
use mathlib.Core.List.{[]}
use Rattle.record.specs.Valid.{valid_lone_record}
use Rattle.excerpt.specs.Excerpts.{Seen}
use Rattle.access_point.proofs.Outsides.{usable}
use Rattle.alone.specs.Told.{Told, leave_alone}
use Rattle.alone.proofs.Acts.{not_valid, leave_group, leave_told}
use Rattle.alone.proofs.Within.{seen}
use Rattle.alone.proofs.leave.Goals as goal

pub returns-then-not-valid_lone_at : goal.returns-then-not-valid_lone_at
unfolding leave_alone
returns-then-not-valid_lone_at c =
    let l = c.args.lone in
    c.answered.ensures
    ∙ ap (λ (t : Told). t.outcome) (not_valid l _ _ [] (sym c.valid_lone_at.ensures ∙ c.if-not-valid_lone_at.true))

pub returns-then-is_group : goal.returns-then-is_group
returns-then-is_group c =
    c.answered-then-is_group.ensures
    ∙ leave_group c.args.lone c.args.station.now (sym c.valid_lone_at.ensures ∙ c.if-not-valid_lone_at.false) (sym c.is_group.ensures ∙ c.if-is_group.true)

pub of-requires : goal.of-requires
of-requires c = (usable c.args.lone (sym c.valid_lone_at.ensures ∙ c.if-not-valid_lone_at.false)).associations

pub store-requires : goal.store-requires
store-requires c =
    let v : valid_lone_record c.args.lone ≡ true = sym c.valid_lone_at.ensures ∙ c.if-not-valid_lone_at.false in
    ((usable c.args.lone v).associations, c.leave-y.ensures.allowed _ _ (seen c.args.lone v _ c.well_formed.0.1.1.0 c.args.station.now c.of.result c.of.ensures))

pub returns : goal.returns
returns c =
    let v : valid_lone_record c.args.lone ≡ true = sym c.valid_lone_at.ensures ∙ c.if-not-valid_lone_at.false in
    let q : Seen c.args.station.now c.args.lone.point c.of.result = seen c.args.lone v _ c.well_formed.0.1.1.0 c.args.station.now c.of.result c.of.ensures in
    c.answered-2.ensures
    ∙ leave_told c.args.lone c.args.station.now v (sym c.is_group.ensures ∙ c.if-is_group.false) c.store.new.a (c.store.ensures ∙ c.leave-y.ensures.result_value _ _ q)
