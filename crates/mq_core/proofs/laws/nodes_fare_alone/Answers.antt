use Rattle.mq_core.proofs.Sequences.AloneSequences.{nodes-fare_alone}
use Rattle.mq_core.proofs.laws.nodes_fare_alone.Goals as goal

pub returns : goal.returns
returns c = nodes-fare_alone
