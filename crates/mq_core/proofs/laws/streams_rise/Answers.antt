use Rattle.mq_core.proofs.Sequences.SequenceOrder.{streams-rise}
use Rattle.mq_core.proofs.laws.streams_rise.Goals as goal

pub returns : goal.returns
returns c = streams-rise
