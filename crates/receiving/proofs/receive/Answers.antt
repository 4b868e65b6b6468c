-- `receiving::receive` meets its contract: each arm of the match is told its command.
-- Assumes nothing.
use Rattle.std.proofs.Common.{ap}
use Rattle.packet.specs.Fields.{octet_of}
use Rattle.reader.specs.Read.{reading_of}
use Rattle.excerpt.specs.Excerpts.{put_back}
use Rattle.receiving.proofs.Rules.{by_add, by_notify, by_response}
use Rattle.receiving.proofs.receive.Goals as goal

pub returns-in-AddNotify-clause-result_value : goal.returns-in-AddNotify-clause-result_value
returns-in-AddNotify-clause-result_value c =
    let r = c.args.r in
    let x = c.receive_add in
    λ a q. by_add c.args.from (reading_of r) c.args.context.now a (put_back a x.result) (ap octet_of c.in-AddNotify.is) (x.ensures.result_value r.station a q)

pub returns-in-MoveNotify-clause-result_value : goal.returns-in-MoveNotify-clause-result_value
returns-in-MoveNotify-clause-result_value c =
    let r = c.args.r in
    let x = c.receive_add-in-MoveNotify in
    λ a q. by_notify c.args.from (reading_of r) c.args.context.now a (put_back a x.result) q.usable.distinct_stations (ap octet_of c.in-MoveNotify.is) _ (c.notify_reply.ensures.value r.station a q) (x.ensures.result_value r.station a q)

pub returns-in-MoveResponse-clause-result_value : goal.returns-in-MoveResponse-clause-result_value
returns-in-MoveResponse-clause-result_value c =
    let r = c.args.r in
    let x = c.receive_response in
    λ a q. by_response c.args.from (reading_of r) c.args.context.now a (put_back a x.result) (ap octet_of c.in-MoveResponse.is) (x.ensures.result_value a q)
