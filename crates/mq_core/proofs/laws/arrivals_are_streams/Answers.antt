use Rattle.mq_core.proofs.Sequences.SequenceMerges.{arrivals-are-streams}
use Rattle.mq_core.proofs.laws.arrivals_are_streams.Goals as goal

pub returns : goal.returns
returns c = arrivals-are-streams
