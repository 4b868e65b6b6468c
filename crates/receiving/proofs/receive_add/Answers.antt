-- `receiving::receive_add` meets its contract: the station's association goes where the number is newer.
-- Assumes nothing.
use Rattle.std.proofs.Common.{sym}
use Rattle.receiving.proofs.Laws.{older_gone}
use Rattle.receiving.proofs.receive_add.Goals as goal

pub returns-in-Some-clause-result_value : goal.returns-in-Some-clause-result_value
returns-in-Some-clause-result_value c =
    λ s a q. older_gone s a c.args.x q c.args.sequence c.in-Some.row c.in-Some.ensures (sym c.if-newer.ensures) c.with_edit.result c.with_edit.ensures
