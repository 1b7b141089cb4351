use Rattle.mq_core.proofs.Sequences.StationTable.{nodes-are-sequences}
use Rattle.mq_core.proofs.laws.nodes_are_sequences.Goals as goal

pub returns : goal.returns
returns c = nodes-are-sequences
