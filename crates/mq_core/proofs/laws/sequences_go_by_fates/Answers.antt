use Rattle.mq_core.proofs.Sequences.ArrivalTable.{sequences-go-by_fates}
use Rattle.mq_core.proofs.laws.sequences_go_by_fates.Goals as goal

pub returns : goal.returns
returns c = sequences-go-by_fates
