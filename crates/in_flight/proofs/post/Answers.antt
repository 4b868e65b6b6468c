-- `in_flight::post` meets its contract. The loop's invariant: the first i packets are put in flight.
-- Assumes nothing.
use mathlib.Core.Path.{◌≡◌, sym, ap, ◌∙◌}
use mathlib.Core.List.{List}
use native.Mathlib.Omega.{arith}
use lib.ListN.{take}
use lib.Seq.{take_all}
use Rattle.structs.specs.declared.InFlight.{InFlight}
use Rattle.structs.specs.Lists.{get_in_flight, put_in_flight, get_outbox}
use Rattle.structs.proofs.Lists.{in_flight_kept}
use Rattle.in_flight.specs.Post.{posted}
use Rattle.in_flight.proofs.Posted.{put_in, put_out}
use Rattle.in_flight.proofs.post.Goals as goal
use Rattle.in_flight.proofs.post.Goals.{then-t-lt64, else-t-lt64}

pub loop-p-init : goal.loop-p-init
unfolding posted
loop-p-init c = sym (in_flight_kept c.args.t.now (omega arith))

pub loop-p-preserved : goal.loop-p-preserved
loop-p-preserved c =
    let t = c.args.t.now in
    let o = c.loop-p.t in
    let ps = c.used-p-items.result.now in
    let i = c.loop-p.p-index in
    let l = c.loop-p-test.true in
    let e = c.loop-p.invariant in
    elim c.if-t-lt64.branch [
      | then-t-lt64 w ↦ w.t-is ∙ w.push.ensures ∙ put_in t o ps (get_in_flight t) i l e w.if-t-lt64.true
      | else-t-lt64 w ↦ w.t-is ∙ put_out t o ps (get_in_flight t) i l e w.if-t-lt64.false
    ]

pub returns : goal.returns
returns c =
    let t = c.args.t.now in
    let ps = c.used-p-items.result.now in
    let all : take c.loop-p.p-index ps ≡ get_outbox c.args.sent.now = take_all c.loop-p.p-index ps (omega arith) ∙ c.used-p-items.ensures.elements in
    c.loop-p.invariant ∙ ap (λ (xs : List InFlight). put_in_flight t (posted xs (get_in_flight t))) all
