-- `script_feed::end` meets its contract: after a line nothing is kept.
-- Assumes nothing.
use Rattle.std.proofs.Common.{take, arith}
use Rattle.script_feed.proofs.Lines.{line_next}
use Rattle.script_feed.proofs.end.Goals as goal

pub end_line-after-requires : goal.end_line-after-requires
end_line-after-requires c = (c.requires.0.sized, c.requires.0.valid, c.requires.1)

pub returns : goal.returns
returns c =
    let s = c.args.state.now in
    let e = c.end_line-after.ensures in
    let n = line_next s.stage s.network (take s.len s.pending) in
    record { state_after = rw (e.stage_value, e.network_value) n; kept = (omega arith, c.requires.0.size); value = e.len_value; out_after = e.out_after }
