-- `access_point::answer_packet` meets its contract: what is written, and whether it fits, is the machine's.
-- Assumes nothing.
use Rattle.std.proofs.Common.{◌≡◌, length, rules}
use Rattle.std.proofs.lemmas.Result.{err_from_is_err_and}
use Rattle.reader.specs.Read.{reading_of}
use Rattle.machine.specs.Packets.{packet_of}
use Rattle.record.proofs.LensLaws.{Fits}
use Rattle.excerpt.specs.Excerpts.{put_back, Seen}
use Rattle.receiving.specs.Receive.{message_in}
use Rattle.access_point.proofs.Written.{fine}
use Rattle.access_point.proofs.Replies.{fits, answer_context, answer_silent, answer_refused, answer_written}
use Rattle.access_point.proofs.answer_packet.Goals as goal
use Rattle.access_point.proofs.answer_packet.Goals.{in-Some+in_ok-len-in-Some, in-None}

pub returns-in_err-len-in-Some-clause-taken_value : goal.returns-in_err-len-in-Some-clause-taken_value
unfolding packet_of
returns-in_err-len-in-Some-clause-taken_value c =
    let l = c.args.l.now in
    let r = c.args.r in
    let u = c.requires.point_usable in
    let z : Fits l.point = fits l.point c.requires.slots u in
    let seen : Seen r.station l.point c.of-x.result = record { usable = u; rows = z.associations; moves = z.moves; same = c.of-x.ensures } in
    let h = c.receive-h in
    let y = c.in-Some.reply in
    let size : length r.station ≡ 6 = search rules in
    let p = err_from_is_err_and c.from_residual.result c.from_residual.ensures.1 in
    rw (p.1, p.2)
    (answer_refused l c.args.from (packet_of (reading_of r) c.args.context.now) c.args.buffer.now (put_back l.point h.result.after) h.result.reply (h.ensures.result_value l.point seen) y c.in-Some.is
    (fine (message_in y) _ size c.requires.packet_limits.1 (answer_context y (rw c.in-Some.is at (h.ensures.len_bound l.point seen)))) _ _ c.in_err-len-in-Some.ensures)

pub returns-clause-taken_value : goal.returns-clause-taken_value
unfolding packet_of
returns-clause-taken_value c =
    let l = c.args.l.now in
    let r = c.args.r in
    let u = c.requires.point_usable in
    let z : Fits l.point = fits l.point c.requires.slots u in
    let seen : Seen r.station l.point c.of-x.result = record { usable = u; rows = z.associations; moves = z.moves; same = c.of-x.ensures } in
    let h = c.receive-h in
    let p = packet_of (reading_of r) c.args.context.now in
    let size : length r.station ≡ 6 = search rules in
    rw c.store.ensures
    (elim c.match-h.branch [
      | in-Some+in_ok-len-in-Some w ↦
          let y = w.in-Some.reply in
          rw (w.len-is, w.buffer-is)
          (answer_written l c.args.from p c.args.buffer.now (put_back l.point h.result.after) h.result.reply (h.ensures.result_value l.point seen) y w.in-Some.is
          (fine (message_in y) _ size c.requires.packet_limits.1 (answer_context y (rw w.in-Some.is at (h.ensures.len_bound l.point seen)))) _ _ w.in_ok-len-in-Some.ensures)
      | in-None w ↦
          rw (w.len-is, w.buffer-is)
          (answer_silent l c.args.from p c.args.buffer.now (put_back l.point h.result.after) h.result.reply (h.ensures.result_value l.point seen) w.in-None.is)
    ])
