use Rattle.mq_core.proofs.Sequences.SequenceFlow.{nodes-flow}
use Rattle.mq_core.proofs.laws.nodes_flow.Goals as goal

pub returns : goal.returns
returns c = nodes-flow
