-- `skelmarith::packets::skel_write` meets its contract: 3, or what the writer answers.
-- Assumes nothing.
use Rattle.std.proofs.Common.{ap, ◌∙◌}
use Rattle.answers.specs.declared.Refusal.{Refusal}
use Rattle.answers.specs.Numbers.{refusal_number}
use Rattle.skelmarith.specs.declared.packets.Written.{Written}
use Rattle.skelmarith.specs.Packets.{writing_in}
use Rattle.skelmarith.proofs.Told.{written_told, known, unknown}
use Rattle.skelmarith.proofs.packets.skel_write.Goals as goal

pub returns-in-Ok : goal.returns-in-Ok
returns-in-Ok c =
    let a = c.args in
    written_told c.write.result c.from.result c.write.new.buffer c.from.ensures
    ∙ c.write.ensures
    ∙ known a.identifier a.status a.station.now a.sequence a.context.now a.buffer.now c.in-Ok.command a.command c.in-Ok.ensures

pub returns-in-Err : goal.returns-in-Err
returns-in-Err c =
    let a = c.args in
    ap (λ (w : Written). writing_in w a.buffer.now) c.from-in-Err.ensures
    ∙ ap (λ (r : Refusal). record { answer = refusal_number r; len = 0; buffer = a.buffer.now }) c.in-Err.ensures.0
    ∙ unknown a.identifier a.status a.station.now a.sequence a.context.now a.buffer.now a.command c.in-Err.ensures.1
