use Rattle.mq_core.proofs.EachKind.AloneRuns.{nodes-flow_alone}
use Rattle.mq_core.proofs.laws.nodes_flow_alone.Goals as goal

pub returns : goal.returns
returns c = nodes-flow_alone
