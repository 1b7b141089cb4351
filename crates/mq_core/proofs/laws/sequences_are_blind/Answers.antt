use Rattle.mq_core.proofs.Sequences.ArrivalTable.{sequences-are-blind}
use Rattle.mq_core.proofs.laws.sequences_are_blind.Goals as goal

pub returns : goal.returns
returns c = sequences-are-blind
