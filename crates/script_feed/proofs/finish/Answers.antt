-- `script_feed::finish` meets its contract: the last line, and then the end.
-- Assumes nothing.
use Rattle.std.proofs.Common.{◌+◌, ◌≤◌, ◌≡◌, ◌∙◌, sym, ap, length, length-append, length-drop, arith}
use Rattle.lists.proofs.Fronts.{rest_from}
use Rattle.script_feed.specs.Feed.{Feeding, closing, last_turn, finished, feeding_of}
use Rattle.script_feed.proofs.Feeding.{kept, held, front_length, put_after}
use Rattle.script_feed.proofs.Room.{last_short, closing_short}
use Rattle.script_feed.proofs.finish.Goals as goal

pub last_line-len-requires : goal.last_line-len-requires
last_line-len-requires c = (held c.args.state (kept c.args.state _ c.well_formed.0 c.requires.0), omega arith)

pub close-requires : goal.close-requires
close-requires c =
    let p = c.last_line-len.ensures in
    let f = feeding_of c.args.state in
    let o = ap length p.out_after ∙ front_length (last_turn f).text c.args.out.now (omega (arith, last_short f)) in
    rw (rest_from c.last_line-len.new.out c.last_line-len.result)
    (omega (arith, o, p.value, last_short f, length-drop c.last_line-len.result c.last_line-len.new.out))

pub returns : goal.returns
unfolding finished
returns c =
    let p = c.last_line-len.ensures in
    let q = c.close.ensures in
    let f = feeding_of c.args.state in
    let t = (last_turn f).text in
    let r = closing (last_turn f).next.stage in
    let e : closing c.last_line-len.new.state.stage ≡ r = ap (λ (x : Feeding). closing x.stage) p.state_after in
    let b = c.args.out.now in
    let room : c.last_line-len.result + length r ≤ length b = omega (arith, p.value, last_short f, closing_short (last_turn f).next.stage) in
    let o = rw e at q.out_after in
    record {
      value = omega (arith, p.value, q.value, ap length e, length-append t r);
      out_after = put_after c.last_line-len.result t r b c.last_line-len.new.out c.close.new.out (sym p.value) room p.out_after o;
    }
