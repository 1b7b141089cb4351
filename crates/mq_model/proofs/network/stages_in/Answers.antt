use Rattle.std.proofs.Common.{[], map}
use Rattle.mq_model.specs.NetworkOf.{stage_in}
use Rattle.mq_model.proofs.Lists.{all_are, last_mapped, one_more}
use Rattle.mq_model.proofs.network.stages_in.Goals as goal

pub loop-stage-preserved : goal.loop-stage-preserved
loop-stage-preserved c = one_more (map (stage_in c.args.columns.now)) c.args.stages.now c.loop-stage.stage-index c.stage-item.result _ [] _ _ _ c.loop-stage.invariant (rw c.demand_in.ensures at c.in_ok-push.ensures.ok) c.stage-item.is c.loop-stage-test.true (λ ys. last_mapped (stage_in c.args.columns.now) ys c.stage-item.result)

pub returns : goal.returns
returns c = all_are (map (stage_in c.args.columns.now)) c.args.stages.now c.loop-stage.stage-index [] _ c.loop-stage.invariant c.loop-stage-test.false
