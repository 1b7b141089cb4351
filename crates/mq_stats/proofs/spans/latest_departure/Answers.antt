use Rattle.std.proofs.Common.{ap, map}
use Rattle.mq_base.proofs.lemmas.Lists.{drop_at}
use Rattle.mq_core.specs.Sequences.{time_of_fate}
use Rattle.mq_stats.proofs.Steps.{grows}
use Rattle.mq_stats.proofs.spans.latest_departure.Goals as goal

pub loop-at-preserved : goal.loop-at-preserved
loop-at-preserved c =
    let next = ap (map time_of_fate) (drop_at c.args.fates.now c.loop-at.at c.at.result c.at.ensures) in
    grows c.loop-at.latest c.max-latest.result c.time_of.result _ _ _ _ c.max-latest.ensures c.time_of.ensures next c.loop-at.invariant
