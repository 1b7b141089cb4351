use Rattle.mq_alike.proofs.Whole.{whole}
use Rattle.mq_alike.proofs.laws.sequences_stay.Goals as goal

pub returns : goal.returns
returns c = whole c.sequences_go_by_fates.ensures
