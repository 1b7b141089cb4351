use Rattle.std.proofs.Common.{◌≤◌, sym, ◌∙◌, arith, count_by}
use Rattle.mq_stats.proofs.Counts.{not-gone, one-gone}
use Rattle.mq_stats.specs.Departures.{is_gone}
use Rattle.mq_stats.proofs.occupancy.gone_by.Goals as goal

pub returns-then-not-gone : goal.returns-then-not-gone
returns-then-not-gone c =
    let most = not-gone c.args.time c.args.position c.args.departures.now c.loop-index.index (0, 0) c.requires.order c.loop-index-test.true (sym c.gone.ensures ∙ c.if-not-gone.true) in
    let least : c.loop-index.index ≤ count_by (is_gone c.args.time c.args.position) c.args.departures.now = c.loop-index.invariant in
    omega arith

pub loop-index-preserved : goal.loop-index-preserved
loop-index-preserved c =
    let more = one-gone c.args.time c.args.position c.args.departures.now c.loop-index.index (0, 0) c.requires.order c.loop-index-test.true (sym c.gone.ensures ∙ c.if-not-gone.false) in
    omega arith
