-- `script_feed::last_line` meets its contract.
-- Assumes nothing.
use Rattle.std.proofs.Common.{refl, arith}
use lib.Seq.{length-take-le}
use Rattle.script_feed.specs.Feed.{feeding_of}
use Rattle.script_feed.proofs.Lines.{no_last, a_last}
use Rattle.script_feed.proofs.last_line.Goals as goal

pub returns-then-state-eq0 : goal.returns-then-state-eq0
returns-then-state-eq0 c =
    let s = c.args.state.now in
    let n = no_last (feeding_of s) (omega (arith, length-take-le s.len s.pending (omega (arith, c.requires.0.short, c.requires.0.size)))) in
    rw n (record { state_after = refl; value = refl; out_after = refl })

pub returns : goal.returns
returns c =
    let s = c.args.state.now in
    let n = a_last (feeding_of s) (λ e. omega (arith, e, length-take-le s.len s.pending (omega (arith, c.requires.0.short, c.requires.0.size)))) in
    let p = c.end.ensures in
    rw n (record { state_after = p.state_after; value = p.value; out_after = p.out_after })
