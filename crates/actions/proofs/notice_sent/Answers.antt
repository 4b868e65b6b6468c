-- `actions::notice_sent` meets its contract: each notice has its packets.
-- Assumes nothing.
use Prim.Native.Nat.{ℕ}
use Rattle.machine.specs.Stations.{Station}
use mathlib.Core.Path.{◌≡◌, sym, ap, ◌∙◌}
use mathlib.Core.List.{[], ◌∷◌, map}
use Rattle.machine.specs.Packets.{carried}
use Rattle.joining.specs.declared.Notice.{Notice}
use Rattle.joining.specs.Join.{sends_by}
use Rattle.in_flight.specs.Post.{outbox_of}
use Rattle.sending.proofs.Outboxes.{outbox_none}
use Rattle.actions.proofs.notice_sent.Goals as goal

-- what a notice sends, where the notice is known
sends : (own k n : ℕ) (s : Station) (x y : Notice) → x ≡ y → outbox_of (map (carried own) (sends_by own k s n y)) ≡ outbox_of (map (carried own) (sends_by own k s n x))
sends own k n s x y e = ap (λ (z : Notice). outbox_of (map (carried own) (sends_by own k s n z))) (sym e)

pub returns-in-Silent : goal.returns-in-Silent
returns-in-Silent c =
    c.none.ensures ∙ outbox_none ∙ sends c.args.own c.args.ap_count c.args.sequence c.args.station c.args.notice _ c.in-Silent.is

pub returns-in-Announce : goal.returns-in-Announce
returns-in-Announce c =
    c.announce.ensures ∙ sends c.args.own c.args.ap_count c.args.sequence c.args.station c.args.notice _ c.in-Announce.is

pub returns-in-Notify : goal.returns-in-Notify
returns-in-Notify c =
    c.one.ensures ∙ ap (λ p. outbox_of (p ∷ [])) c.move_notify.ensures ∙ sends c.args.own c.args.ap_count c.args.sequence c.args.station c.args.notice _ c.in-Notify.is
