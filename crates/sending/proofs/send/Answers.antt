-- `sending::send` meets its contract: the writer takes the packet, and 82 octets are room enough.
-- Assumes nothing.
use Rattle.std.proofs.Common.{rules}
use Rattle.packet.specs.Fields.{fields_of}
use Rattle.sending.proofs.Carried.{is_written, sent, same_station}
use Rattle.sending.proofs.send.Goals as goal

pub unwrap-len-requires : goal.unwrap-len-requires
unwrap-len-requires c =
    let p = c.args.p in
    is_written (fields_of p c.args.context.now) (same_station p.command p c.args.context.now (search rules)) c.requires c.write.new.buffer c.write.result c.write.ensures

pub returns : goal.returns
returns c =
    let p = c.args.p in
    sent (fields_of p c.args.context.now) (same_station p.command p c.args.context.now (search rules)) c.requires c.write.new.buffer c.args.from c.args.to c.unwrap-len.result
    (rw c.unwrap-len.ensures at c.write.ensures)
