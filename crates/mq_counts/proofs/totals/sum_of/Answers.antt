use Rattle.std.proofs.Common.{arith}
use Rattle.mq_counts.proofs.NodeTotals.{before-all, before-more, before-none, neighbours, piece-at}
use Rattle.mq_counts.proofs.totals.sum_of.Goals as goal

pub loop-b-init : goal.loop-b-init
loop-b-init c = before-none c.args.node.now _ c.in_ok-sum.ensures

pub blocks_added-requires : goal.blocks_added-requires
blocks_added-requires c =
    neighbours c.args.node.now c.loop-b.b c.loop-b.sum c.get.result.now c.requires.visited c.loop-b.invariant (piece-at c.args.node.now c.args.group.now c.loop-b.b c.get.result.now c.requires.group c.get.ensures)

pub loop-b-preserved : goal.loop-b-preserved
loop-b-preserved c =
    before-more c.args.node.now c.loop-b.b c.loop-b.sum c.get.result.now c.in_ok-sum-2.sum c.requires.visited c.loop-b.invariant
    (piece-at c.args.node.now c.args.group.now c.loop-b.b c.get.result.now c.requires.group c.get.ensures) c.in_ok-sum-2.ensures.block

pub returns : goal.returns
returns c =
    let len = c.requires.group.len in
    before-all c.waits_join.ensures c.args.node.now c.loop-b.b c.loop-b.sum c.requires.visited (omega arith) c.loop-b.invariant
