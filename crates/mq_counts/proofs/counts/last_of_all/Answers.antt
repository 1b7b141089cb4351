use Rattle.std.proofs.Common.{sym, arith}
use Rattle.mq_counts.proofs.Counting.{last-all, last-more}
use Rattle.mq_counts.proofs.counts.last_of_all.Goals as goal

pub loop-node-init : goal.loop-node-init
loop-node-init c = sym (c.span_is_sequences.ensures c.args.plan.now c.args.rows.now c.requires.read)

pub loop-node-preserved : goal.loop-node-preserved
loop-node-preserved c =
    last-more c.lasts_are_greatest.ensures c.args.plan.now c.args.rows.now c.requires.read c.requires.nodes.0 c.args.nodes.now c.requires.nodes.1 c.loop-node.node c.get.result.now c.loop-node.span c.max-span.result c.get.ensures c.max-span.ensures c.loop-node.invariant

pub returns : goal.returns
returns c = last-all c.lasts_are_greatest.ensures c.args.plan.now c.args.rows.now c.requires.read c.requires.nodes.0 c.args.nodes.now c.requires.nodes.1 c.loop-node.node c.loop-node.span (omega arith) c.loop-node.invariant
