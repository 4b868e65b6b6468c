-- `alone::who` meets its contract: 14, 13, or whether the row was found.
-- Assumes nothing.
use mathlib.Core.Path.{◌≡◌, sym, ap, ◌∙◌}
use mathlib.Core.Bool.{true, false}
use native.Mathlib.Omega.{arith}
use borrow.Author.Tests.{lt-ltb, le-ltb}
use Rattle.record.specs.Valid.{valid_lone_record}
use Rattle.record.proofs.Sizes.{fits}
use Rattle.access_point.proofs.Outsides.{usable}
use Rattle.alone.specs.declared.Reply.{Reply}
use Rattle.alone.proofs.Acts.{who_invalid, who_group, who_told}
use Rattle.alone.proofs.who.Goals as goal

pub returns-then-not-valid_lone_at : goal.returns-then-not-valid_lone_at
returns-then-not-valid_lone_at c =
    c.answered.ensures
    ∙ who_invalid c.args.lone c.args.station.now (sym c.valid_lone_at.ensures ∙ c.if-not-valid_lone_at.true)

pub returns-then-group : goal.returns-then-group
returns-then-group c =
    c.answered-then-group.ensures
    ∙ who_group c.args.lone c.args.station.now (sym c.valid_lone_at.ensures ∙ c.if-not-valid_lone_at.false) (sym c.is_group-group.ensures ∙ c.if-group.true)

pub find-requires : goal.find-requires
find-requires c = (usable c.args.lone (sym c.valid_lone_at.ensures ∙ c.if-not-valid_lone_at.false)).associations

pub returns-then-find-t : goal.returns-then-find-t
returns-then-find-t c =
    let l = c.args.lone in
    let v : valid_lone_record l ≡ true = sym c.valid_lone_at.ensures ∙ c.if-not-valid_lone_at.false in
    ap (λ (r : Reply). record { lone = l; reply = record { answer = r.answer; sent = r.sent; given_up = r.given_up; held = 1; to = r.to; len = r.len } }) c.reply_with-reply.ensures
    ∙ who_told l c.args.station.now v (sym c.is_group-group.ensures ∙ c.if-group.false) c.find.result true (fits l.point _ c.well_formed.0.1.1.0 (usable l v)).associations c.find.ensures (lt-ltb c.find.result l.point.associations.count (omega arith))

pub returns-else-find-t : goal.returns-else-find-t
returns-else-find-t c =
    let l = c.args.lone in
    let v : valid_lone_record l ≡ true = sym c.valid_lone_at.ensures ∙ c.if-not-valid_lone_at.false in
    ap (λ (r : Reply). record { lone = l; reply = r }) c.reply_with-reply.ensures
    ∙ who_told l c.args.station.now v (sym c.is_group-group.ensures ∙ c.if-group.false) c.find.result false (fits l.point _ c.well_formed.0.1.1.0 (usable l v)).associations c.find.ensures (le-ltb c.find.result l.point.associations.count (omega arith))
