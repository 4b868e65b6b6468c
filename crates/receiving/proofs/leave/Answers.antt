-- `receiving::leave` meets its contract: the station's association is at the excerpt's place, or nowhere.
-- Assumes nothing.
use Rattle.receiving.proofs.Laws.{leave_gone}
use Rattle.receiving.proofs.leave.Goals as goal

pub returns-in-Some-clause-result_value : goal.returns-in-Some-clause-result_value
returns-in-Some-clause-result_value c = λ s a q. leave_gone s a c.args.x q c.in-Some.row c.with_edit.result c.with_edit.ensures
