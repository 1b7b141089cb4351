use Rattle.std.proofs.Common.{[], map}
use Rattle.mq_model.specs.NetworkOf.{demand_in}
use Rattle.mq_model.proofs.Lists.{all_are, last_mapped, one_more}
use Rattle.mq_model.proofs.network.branches_in.Goals as goal

pub loop-demands-preserved : goal.loop-demands-preserved
loop-demands-preserved c = one_more (map (map (demand_in c.args.columns.now))) c.args.branches.now c.loop-demands.demands-index c.demands-item.result _ [] _ _ _ c.loop-demands.invariant (rw (c.in_ok-demands_in.ensures, c.as_slice.ensures) at c.in_ok-push.ensures.ok) c.demands-item.is c.loop-demands-test.true (λ ys. last_mapped (map (demand_in c.args.columns.now)) ys c.demands-item.result)

pub returns : goal.returns
returns c = all_are (map (map (demand_in c.args.columns.now))) c.args.branches.now c.loop-demands.demands-index [] _ c.loop-demands.invariant c.loop-demands-test.false
