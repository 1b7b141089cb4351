use Rattle.std.proofs.Common.{arith}
use Rattle.std.proofs.lemmas.Option.{slice_get-get_or}
use Rattle.mq_stats.proofs.Steps.{adds, sojourns-at}
use Rattle.mq_stats.proofs.tallies.sojourns_of.Goals as goal

pub loop-at-preserved : goal.loop-at-preserved
loop-at-preserved c =
    let arrives = c.args.arrive.now in
    let sojourns = sojourns-at c.args.span arrives c.args.fate.now c.loop-at.at _ _ (slice_get-get_or arrives c.loop-at.at 0 c.loop-at-test.true) c.at-ending.ensures in
    record {
      sum = adds c.loop-at.area _ _ _ _ _ c.sojourn_of.ensures sojourns c.loop-at.invariant.sum;
      small = omega arith;
    }
