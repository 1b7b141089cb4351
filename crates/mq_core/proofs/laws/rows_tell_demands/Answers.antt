use Rattle.mq_core.proofs.EachKind.Plans.{rows-tell-demands}
use Rattle.mq_core.proofs.laws.rows_tell_demands.Goals as goal

pub returns : goal.returns
returns c = rows-tell-demands
