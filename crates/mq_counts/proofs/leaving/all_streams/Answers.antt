use Rattle.mq_counts.proofs.Exits.{streams-more}
use Rattle.mq_counts.proofs.Lists.{each-has}
use Rattle.mq_counts.specs.Counts.{AreCountable}
use Rattle.mq_counts.proofs.leaving.all_streams.Goals as goal

pub node_streams-requires : goal.node_streams-requires
node_streams-requires c = each-has (AreCountable c.args.rows.now) c.args.all.now c.loop-at.at c.get.result.now c.requires c.get.ensures

pub loop-at-preserved : goal.loop-at-preserved
loop-at-preserved c =
    streams-more c.args.nodes.now c.args.rows.now c.args.all.now c.loop-at.at c.loop-at.streams _ c.get.result.now c.in-Ok.its c.loop-at.invariant c.get.ensures c.in-Ok.ensures.fit c.in-Ok.ensures.its c.in_ok-push-in-Ok.ensures.ok
