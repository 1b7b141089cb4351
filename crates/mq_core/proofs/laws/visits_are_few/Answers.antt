use Rattle.mq_core.proofs.Sequences.SequenceFew.{visits-are-few}
use Rattle.mq_core.proofs.laws.visits_are_few.Goals as goal

pub returns : goal.returns
returns c = visits-are-few
