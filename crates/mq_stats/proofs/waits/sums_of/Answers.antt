use Rattle.std.proofs.Common.{◌+◌, ◌<◌, ap, ◌∙◌, arith, length, max, sym}
use Rattle.std.specs.Prelude.{fold}
use Rattle.std.proofs.lemmas.Option.{slice_get-get_or}
use Rattle.mq_stats.proofs.Steps.{adds, grows, services-at, services-end, waits-at, waits-end}
use Rattle.mq_stats.proofs.waits.sums_of.Goals as goal

pub loop-at-preserved : goal.loop-at-preserved
loop-at-preserved c =
    let rows = c.args.waiting.now.rows.now in
    let kind = c.args.waiting.now.kind.now in
    let jobs = c.args.waiting.now.job.now in
    let arrives = c.args.waiting.now.arrive.now in
    let at = c.loop-at.at in
    let more = c.loop-at-test.true in
    let even = c.requires.visits.arrives in
    let came : at < length arrives = omega arith in
    let job = slice_get-get_or jobs at 0 more in
    let arrive = slice_get-get_or arrives at 0 came in
    let waits = waits-at rows kind jobs arrives c.args.waiting.now.fate.now at _ _ _ job arrive c.at-ending.ensures in
    let services = services-at rows kind jobs c.args.waiting.now.fate.now at _ _ job c.at-ending.ensures in
    record {
      wait = adds c.loop-at.wait _ _ _ _ _ c.wait_of-waited.ensures waits c.loop-at.invariant.wait;
      longest = grows c.loop-at.longest c.max-longest.result c.wait_of-waited.result _ _ _ _ c.max-longest.ensures c.wait_of-waited.ensures waits c.loop-at.invariant.longest;
      busy = adds c.loop-at.busy _ _ _ _ _ (c.served.ensures rows kind _ c.service_of-service.ensures) services c.loop-at.invariant.busy;
      small = omega arith;
      small_busy = omega arith;
    }

pub returns : goal.returns
returns c =
    let waiting = c.args.waiting.now in
    let end = c.loop-at-test.false in
    record {
      wait = sym (ap (fold (λ a y. a + y) c.loop-at.wait) (waits-end waiting.rows.now waiting.kind.now waiting.job.now waiting.arrive.now waiting.fate.now c.loop-at.at end)) ∙ c.loop-at.invariant.wait;
      longest = sym (ap (fold max c.loop-at.longest) (waits-end waiting.rows.now waiting.kind.now waiting.job.now waiting.arrive.now waiting.fate.now c.loop-at.at end)) ∙ c.loop-at.invariant.longest;
      busy = sym (ap (fold (λ a y. a + y) c.loop-at.busy) (services-end waiting.rows.now waiting.kind.now waiting.job.now waiting.fate.now c.loop-at.at end)) ∙ c.loop-at.invariant.busy;
      small = omega (arith, c.loop-at.invariant.small);
      small_busy = omega (arith, c.loop-at.invariant.small_busy);
    }
