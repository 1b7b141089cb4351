use Rattle.std.proofs.Common.{arith}
use Rattle.mq_counts.proofs.Counting.{visits-in-all, visits-in-more, visits-in-none}
use Rattle.mq_counts.proofs.Lists.{each-has}
use Rattle.mq_counts.specs.Counts.{AreCountable}
use Rattle.mq_counts.proofs.counts.all_visits.Goals as goal

pub node_visits-requires : goal.node_visits-requires
node_visits-requires c = each-has (AreCountable c.args.rows.now) c.args.all.now c.loop-at.at c.get.result.now c.requires c.get.ensures

pub loop-at-init : goal.loop-at-init
loop-at-init c = visits-in-none c.args.rows.now c.args.all.now _ c.new-visits.ensures

pub loop-at-preserved : goal.loop-at-preserved
loop-at-preserved c =
    visits-in-more c.args.rows.now c.args.all.now c.loop-at.at c.loop-at.visits _ c.get.result.now c.node_visits.result c.loop-at.invariant c.get.ensures c.node_visits.ensures.visited c.node_visits.ensures.its c.in_ok-push.ensures.ok

pub returns : goal.returns
returns c = visits-in-all c.args.rows.now c.args.all.now c.loop-at.at c.loop-at.visits c.loop-at.invariant (omega arith)
