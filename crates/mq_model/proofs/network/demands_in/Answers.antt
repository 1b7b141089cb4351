use Rattle.std.proofs.Common.{[], map}
use Rattle.mq_model.specs.NetworkOf.{demand_in}
use Rattle.mq_model.proofs.Lists.{all_are, last_mapped, one_more}
use Rattle.mq_model.proofs.network.demands_in.Goals as goal

pub loop-demand-preserved : goal.loop-demand-preserved
loop-demand-preserved c = one_more (map (demand_in c.args.columns.now)) c.args.demands.now c.loop-demand.demand-index c.demand-item.result _ [] _ _ _ c.loop-demand.invariant (rw c.demand_in.ensures at c.in_ok-push.ensures.ok) c.demand-item.is c.loop-demand-test.true (λ ys. last_mapped (demand_in c.args.columns.now) ys c.demand-item.result)

pub returns : goal.returns
returns c = all_are (map (demand_in c.args.columns.now)) c.args.demands.now c.loop-demand.demand-index [] _ c.loop-demand.invariant c.loop-demand-test.false
