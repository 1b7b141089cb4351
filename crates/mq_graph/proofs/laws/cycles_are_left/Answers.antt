use Rattle.mq_graph.proofs.Cycles.{cycles-left}
use Rattle.mq_graph.proofs.laws.cycles_are_left.Goals as goal

pub returns : goal.returns
returns c = cycles-left
