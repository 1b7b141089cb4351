use Rattle.mq_maxplus.proofs.Vectors.{new-padded, new-voids}
use Rattle.mq_maxplus.proofs.vector.Vector.new.Goals as goal

pub invariant_of-result : goal.invariant_of-result
invariant_of-result c = new-padded c.args.size c.requires.some c.requires.few

pub returns : goal.returns
returns c = new-voids c.args.size c.requires.few
