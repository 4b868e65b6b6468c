-- `script_feed::push` meets its contract: a line ends, or an octet more is kept.
-- Assumes nothing.
use Rattle.std.proofs.Common.{ap, refl, ℕ, List, length-set, arith}
use Rattle.script_feed.specs.Feed.{feeding_of}
use Rattle.script_feed.proofs.Lines.{octet_ends, octet_stays, kept_more, kept_all}
use Rattle.script_feed.proofs.push.Goals as goal

pub returns-then-x-eq10 : goal.returns-then-x-eq10
returns-then-x-eq10 c =
    let e = c.end.ensures in
    let o = octet_ends (feeding_of c.args.state.now) c.args.x (omega arith) in
    rw o (record { state_after = e.state_after; kept = e.kept; value = e.value; out_after = e.out_after })

pub returns-then-state-lt256 : goal.returns-then-state-lt256
returns-then-state-lt256 c =
    let s = c.args.state.now in
    let o = octet_stays (feeding_of s) c.args.x (λ q. omega arith) in
    rw o
    (record {
      state_after = ap (λ (p : List ℕ). record { stage = s.stage; network = s.network; pending = p }) (kept_more s.pending s.len c.args.x c.requires.0.size (omega arith));
      kept = (omega arith, omega (arith, length-set {A = ℕ}, c.requires.0.size));
      value = refl;
      out_after = refl;
    })

pub returns-else-state-lt256 : goal.returns-else-state-lt256
returns-else-state-lt256 c =
    let s = c.args.state.now in
    let o = octet_stays (feeding_of s) c.args.x (λ q. omega arith) in
    rw o
    (record {
      state_after = ap (λ (p : List ℕ). record { stage = s.stage; network = s.network; pending = p }) (kept_all s.pending s.len c.args.x c.requires.0.size c.requires.0.short (omega arith));
      kept = (c.requires.0.short, c.requires.0.size);
      value = refl;
      out_after = refl;
    })
