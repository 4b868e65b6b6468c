-- `receiving::notify_reply` meets its contract: each answer is the machine's.
-- Assumes nothing.
use Rattle.receiving.proofs.Laws.{reply_small}
use Rattle.receiving.proofs.notify_reply.Goals as goal

pub returns-in-Some-clause-len_bound : goal.returns-in-Some-clause-len_bound
returns-in-Some-clause-len_bound c = λ s a q. reply_small s a c.args.x q c.in-Some.row c.in-Some.ensures
