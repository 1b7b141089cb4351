use Rattle.mq_core.proofs.Sequences.ArrivalTable.{fates-in_time}
use Rattle.mq_core.proofs.laws.fates_are_in_time.Goals as goal

pub returns : goal.returns
returns c = fates-in_time
