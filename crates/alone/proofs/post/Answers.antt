-- `alone::post` meets its contract: too short, or written.
-- Assumes nothing.
use mathlib.Core.Path.{refl, ap, ◌∙◌}
use native.Mathlib.Omega.{arith}
use Rattle.alone.specs.declared.Reply.{Reply}
use Rattle.alone.specs.Front.{posted_of}
use Rattle.alone.proofs.Acts.{posted_short, posted_written}
use Rattle.alone.proofs.post.Goals as goal

pub returns-then-buffer-len : goal.returns-then-buffer-len
returns-then-buffer-len c =
    ap (λ (r : Reply). posted_of r c.args.buffer.now) c.reply_with.ensures
    ∙ posted_short 0 c.args.sent.now c.args.given_up c.args.buffer.now refl (omega (arith, c.length_of-len.ensures))

pub returns : goal.returns
returns c =
    let n = c.length_of-len.ensures in
    let t = c.receivers.ensures in
    let w = c.write_all.ensures in
    (λ i. posted_of (record { answer = 0; sent = c.args.sent.now.count; given_up = c.args.given_up; held = 0; to = t i; len = n i }) (w i))
    ∙ posted_written 0 c.args.sent.now c.args.given_up c.args.buffer.now refl (omega (arith, n))
