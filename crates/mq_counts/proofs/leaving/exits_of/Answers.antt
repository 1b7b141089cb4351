use Rattle.mq_counts.proofs.Lists.{all-more}
use Rattle.mq_counts.specs.Leaving.{IsExitAt}
use Rattle.mq_counts.proofs.leaving.exits_of.Goals as goal

pub loop-output-preserved : goal.loop-output-preserved
loop-output-preserved c = all-more (IsExitAt c.args.node.now) c.loop-output.output c.loop-output.exits _ c.exit_at.result c.loop-output.invariant c.exit_at.ensures c.in_ok-push.ensures.ok
