use Rattle.mq_join.proofs.Came.{gathered-came}
use Rattle.mq_join.proofs.laws.gathered_came.Goals as goal

pub returns : goal.returns
returns c = gathered-came
