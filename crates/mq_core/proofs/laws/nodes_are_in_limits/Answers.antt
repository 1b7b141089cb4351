use Rattle.mq_core.proofs.EachKind.Plans.{nodes-are-in-limits}
use Rattle.mq_core.proofs.laws.nodes_are_in_limits.Goals as goal

pub returns : goal.returns
returns c = nodes-are-in-limits
