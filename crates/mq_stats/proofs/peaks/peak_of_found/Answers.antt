use Rattle.std.proofs.lemmas.Option.{slice_get-get_or}
use Rattle.mq_stats.proofs.Steps.{grows, numbers-at}
use Rattle.mq_stats.proofs.peaks.peak_of_found.Goals as goal

pub loop-at-preserved : goal.loop-at-preserved
loop-at-preserved c =
    let founds = c.args.found.now in
    let numbers = numbers-at founds c.args.fate.now c.loop-at.at _ _ (slice_get-get_or founds c.loop-at.at 0 c.loop-at-test.true) c.at.ensures in
    grows c.loop-at.peak c.max-peak.result c.number_after.result _ _ _ _ c.max-peak.ensures c.number_after.ensures numbers c.loop-at.invariant
