-- `alone::write_all` meets its contract. The loop's invariant: the first packets, `at` octets, stand at the front of the buffer.
-- Assumes nothing.
use Rattle.std.proofs.Common.{◌≡◌, ℕ, ◌≤◌, List, length, get_or, take, sym, ap, ◌∙◌, arith, length-drop, length-take}
use lib.Seq.{take_all}
use Rattle.lists.specs.Places.{All}
use Rattle.machine.specs.Packets.{octets_in}
use Rattle.in_flight.proofs.Posted.{past}
use Rattle.alone.specs.Told.{front_of}
use Rattle.alone.specs.Front.{octets_in_all, outbox_octets, Sized}
use Rattle.alone.proofs.Packets.{next_sized, next_length, next_room, octets_next, front_next}
use Rattle.alone.proofs.write_all.Goals as goal

pub shared_ref_as_front-copy : goal.shared_ref_as_front-copy
shared_ref_as_front-copy c =
    let ps = c.used-p-items.result.now in
    let sizes : All Sized ps = rw c.used-p-items.ensures.elements c.requires.packed.sizes in
    (next_sized ps c.loop-p.p-index past c.loop-p-test.true sizes).used

pub copy-requires : goal.copy-requires
unfolding outbox_octets
copy-requires c =
    let ps = c.used-p-items.result.now in
    let l = c.loop-p in
    let sizes : All Sized ps = rw c.used-p-items.ensures.elements c.requires.packed.sizes in
    let room : length (octets_in_all ps) ≤ length c.args.buffer.now = rw c.used-p-items.ensures.elements c.requires.sent_in_bounds in
    simp (length-take, length-drop)
    (omega (arith, next_room ps l.p-index past c.loop-p-test.true sizes, l.invariant.0, l.auto.buffer))

pub loop-p-preserved : goal.loop-p-preserved
unfolding octets_in
loop-p-preserved c =
    let ps = c.used-p-items.result.now in
    let l = c.loop-p in
    let i = l.p-index in
    let sizes : All Sized ps = rw c.used-p-items.ensures.elements c.requires.packed.sizes in (
      omega (arith, next_length ps i past c.loop-p-test.true sizes, l.invariant.0),
      front_next (octets_in_all (take i ps)) (octets_in (get_or ps i past)) c.args.buffer.now l.buffer c.copy.new.to l.at l.invariant.0 l.invariant.1 c.copy.ensures
          ∙ ap (λ (t : List ℕ). front_of t c.args.buffer.now) (sym (octets_next ps i past c.loop-p-test.true)),
    )

pub returns : goal.returns
unfolding outbox_octets
returns c =
    let ps = c.used-p-items.result.now in
    let e : take c.loop-p.p-index ps ≡ ps = take_all c.loop-p.p-index ps (omega arith) in
    c.loop-p.invariant.1 ∙ rw (e, c.used-p-items.ensures.elements)
