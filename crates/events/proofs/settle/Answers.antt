-- `events::settle` meets its contract: where a packet is taken out, what is sent is put over what is left.
-- Assumes nothing.
use mathlib.Core.Path.{◌≡◌, ap, ◌∙◌}
use native.Mathlib.Omega.{arith}
use lib.ListN.{length}
use Rattle.structs.specs.declared.InFlights.{InFlights}
use Rattle.structs.specs.Lists.{get_in_flight, put_in_flight, get_outbox}
use Rattle.in_flight.specs.Post.{posted}
use Rattle.events.proofs.Taken.{left, left_few, left_slots, left_posted}
use Rattle.events.proofs.settle.Goals as goal
use Rattle.events.proofs.settle.Goals.{then-taken, else-taken}

pub post-requires : goal.post-requires
post-requires c =
    let t = c.args.t.now in
    let e : c.if-taken.t ≡ left c.args.taken c.args.k t = elim c.if-taken.branch [
      | then-taken w ↦ w.t-is ∙ w.remove.ensures ∙ rw w.if-taken.true
      | else-taken w ↦ w.t-is ∙ rw w.if-taken.false
    ] in
    let n = ap (λ (r : InFlights). r.count) e in
    let m = ap (λ (r : InFlights). length r.items) e in
    (omega (arith, n, left_few t c.args.k c.args.taken, c.requires.0), omega (arith, m, left_slots t c.args.k c.args.taken (omega arith), c.requires.1), c.requires.2)

pub returns : goal.returns
returns c =
    let t = c.args.t.now in
    let e : c.if-taken.t ≡ left c.args.taken c.args.k t = elim c.if-taken.branch [
      | then-taken w ↦ w.t-is ∙ w.remove.ensures ∙ rw w.if-taken.true
      | else-taken w ↦ w.t-is ∙ rw w.if-taken.false
    ] in
    c.post.ensures
    ∙ ap (λ (r : InFlights). put_in_flight r (posted (get_outbox c.args.sent.now) (get_in_flight r))) e
    ∙ left_posted t c.args.k c.args.taken c.args.sent.now
