use Rattle.mq_core.proofs.lemmas.Demands.{longest-next, told-at}
use Rattle.mq_core.proofs.demands.longest_of.Goals as goal

pub sum_of-requires : goal.sum_of-requires
sum_of-requires c = told-at c.args.rows.now c.args.branches.now c.args.job c.loop-at.at _ c.get.ensures c.requires

pub loop-at-preserved : goal.loop-at-preserved
loop-at-preserved c =
    longest-next c.args.rows.now c.args.branches.now c.args.job c.loop-at.longest c.max-longest.result c.sum_of.result _ c.loop-at.at _ c.get.ensures c.max-longest.ensures c.sum_of.ensures c.loop-at.invariant
