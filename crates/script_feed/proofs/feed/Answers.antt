-- `script_feed::feed` meets its contract: one octet after the other is fed.
-- Assumes nothing.
use Rattle.std.proofs.Common.{◌≡◌, ◌∙◌, ap, ℕ, List, length, take}
use lib.Seq.{take_all}
use Rattle.script.specs.Put.{front}
use Rattle.script_feed.specs.Feed.{fed, shown, feeding_of}
use Rattle.script_feed.proofs.Feeding.{kept, held, fed_start, room_left, fed_next}
use Rattle.script_feed.proofs.feed.Goals as goal

pub loop-x-init : goal.loop-x-init
loop-x-init c = fed_start c.args.state c.args.piece.now c.args.out.now (kept c.args.state _ c.well_formed.0 c.requires.0)

pub slice_bounds-push-count : goal.slice_bounds-push-count
slice_bounds-push-count c =
    (room_left (feeding_of c.args.state) c.args.piece.now c.args.out.now c.loop-x.out c.loop-x.state c.loop-x.x-index c.loop-x.len c.requires.1 c.loop-x-test.true c.loop-x.invariant).0

pub slice_bounds-push-start : goal.slice_bounds-push-start
slice_bounds-push-start c =
    let h = room_left (feeding_of c.args.state) c.args.piece.now c.args.out.now c.loop-x.out c.loop-x.state c.loop-x.x-index c.loop-x.len c.requires.1 c.loop-x-test.true c.loop-x.invariant in
    h.0

pub push-len-requires : goal.push-len-requires
push-len-requires c =
    let h = room_left (feeding_of c.args.state) c.args.piece.now c.args.out.now c.loop-x.out c.loop-x.state c.loop-x.x-index c.loop-x.len c.requires.1 c.loop-x-test.true c.loop-x.invariant in
    (held c.loop-x.state c.loop-x.invariant.kept, h.1)

pub loop-x-preserved : goal.loop-x-preserved
loop-x-preserved c =
    let e = c.push-len.ensures in
    fed_next (feeding_of c.args.state) c.args.piece.now c.args.out.now c.loop-x.out c.loop-x.state c.loop-x.x-index c.loop-x.len c.requires.1 c.loop-x-test.true c.loop-x.invariant
    c.push-len.new.state c.push-len.result c.push-len.new.out e.state_after e.kept e.value e.out_after

pub returns : goal.returns
returns c =
    let p = c.loop-x.invariant in
    let f = feeding_of c.args.state in
    let a : take c.loop-x.x-index c.args.piece.now ≡ c.args.piece.now = take_all c.loop-x.x-index c.args.piece.now c.loop-x-test.false in
    record {
      state_value = p.known ∙ ap (fed f) a;
      good_value = record { valid = p.kept.ready.valid; short = p.kept.short };
      len_value = p.size ∙ ap (λ (x : List ℕ). length (shown f x)) a;
      out_after = p.buffer ∙ ap (λ (x : List ℕ). front (shown f x) c.args.out.now) a;
    }
