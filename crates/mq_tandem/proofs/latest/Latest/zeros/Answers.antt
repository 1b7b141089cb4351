use Rattle.mq_tandem.proofs.Kept.{zeros-kept, zeros-padded}
use Rattle.mq_tandem.proofs.latest.Latest.zeros.Goals as goal

pub invariant_of-result : goal.invariant_of-result
invariant_of-result c = zeros-padded c.args.rows c.requires.some c.requires.few

pub returns : goal.returns
returns c = zeros-kept c.args.rows c.requires.few
