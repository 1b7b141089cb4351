use Rattle.std.proofs.Common.{◌∙◌}
use Rattle.mq_engine.proofs.counting.let_go.Goals as goal

pub loop-node-preserved : goal.loop-node-preserved
loop-node-preserved c = record {
  counting = λ rows form h. c.let_go_at.ensures.counting rows form (c.loop-node.invariant.counting rows form h);
  stand = c.let_go_at.ensures.stand ∙ c.loop-node.invariant.stand;
  left = c.let_go_at.ensures.left;
}
