use Rattle.mq_core.proofs.Sequences.SequenceTimes.{departs-in-time}
use Rattle.mq_core.proofs.laws.departs_in_time.Goals as goal

pub returns : goal.returns
returns c = departs-in-time
