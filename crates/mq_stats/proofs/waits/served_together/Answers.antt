use Rattle.std.proofs.Common.{◌+◌, ◌<◌, ◌≤◌, ap, ◌∙◌, arith, fold, get_or, length, sym}
use Rattle.std.proofs.lemmas.Option.{slice_get-get_or}
use Rattle.mq_stats.proofs.Steps.{adds, services-at, services-end}
use Rattle.mq_stats.proofs.waits.served_together.Goals as goal

pub loop-at-preserved : goal.loop-at-preserved
loop-at-preserved c =
    let rows = c.args.waiting.now.rows.now in
    let kind = c.args.waiting.now.kind.now in
    let jobs = c.args.waiting.now.job.now in
    let at = c.loop-at.at in
    let more : at < length jobs = omega (arith, c.requires.services.even, c.loop-at-test.true) in
    let job = slice_get-get_or jobs at 0 more in
    let services = services-at rows kind jobs c.args.waiting.now.fate.now at _ _ job c.at.ensures in
    record {
      busy = adds c.loop-at.busy _ _ _ _ _ (c.served.ensures rows kind (get_or jobs at 0) (c.requires.services.each at more)) services c.loop-at.invariant.busy;
      small = omega (arith, c.loop-at.invariant.small);
    }

pub returns-clause-busy : goal.returns-clause-busy
returns-clause-busy c =
    let waiting = c.args.waiting.now in
    let end : length waiting.job.now ≤ c.loop-at.at = omega (arith, c.requires.services.even, c.loop-at-test.false) in
    sym (ap (fold (λ a y. a + y) c.loop-at.busy) (services-end waiting.rows.now waiting.kind.now waiting.job.now waiting.fate.now c.loop-at.at end)) ∙ c.loop-at.invariant.busy
