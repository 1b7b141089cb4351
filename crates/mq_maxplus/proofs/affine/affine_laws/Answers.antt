use Rattle.mq_maxplus.proofs.Laws.{acts, joins}
use Rattle.mq_maxplus.proofs.affine.affine_laws.Goals as goal

pub returns : goal.returns
returns c = record { acts = acts; joins = joins }
