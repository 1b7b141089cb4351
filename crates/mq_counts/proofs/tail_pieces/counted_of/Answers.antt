use Rattle.std.proofs.Common.{arith}
use Rattle.mq_counts.proofs.CountedTails.{counted-all, counted-at, counted-more, counted-none, sum-at}
use Rattle.mq_counts.proofs.Lists.{among-all, each-has}
use Rattle.mq_counts.specs.TailPieces.{IsWaited}
use Rattle.mq_counts.specs.Totals.{IsSumIn}
use Rattle.mq_base.proofs.lemmas.Lists.{get-some}
use Rattle.mq_counts.proofs.tail_pieces.counted_of.Goals as goal

pub counted_at-requires-clause-waited : goal.counted_at-requires-clause-waited
counted_at-requires-clause-waited c = each-has IsWaited c.args.all.now c.loop-node.node c.get.result.now c.requires.waits.waited c.get.ensures

pub counted_at-requires-clause-group : goal.counted_at-requires-clause-group
counted_at-requires-clause-group c = c.requires.groups.each c.loop-node.node c.get.result.now _ c.get.ensures c.get-in-loop-node-2.ensures

pub counted_at-requires-clause-sum : goal.counted_at-requires-clause-sum
counted_at-requires-clause-sum c =
    let nodes = c.args.known.now.nodes.now in
    let node = get-some nodes c.loop-node.node (omega (arith, c.requires.waits.len)) in
    sum-at nodes c.loop-node.node c.get.result.now c.get-in-loop-node.result.now node.0 node.1 (c.requires.waits.each c.loop-node.node c.get.result.now c.get.ensures)
    (among-all (IsSumIn nodes) _ c.args.known.now.sums.now c.loop-node.node c.get-in-loop-node.result.now c.requires.known.sums c.get-in-loop-node.ensures)

pub loop-node-preserved : goal.loop-node-preserved
loop-node-preserved c =
    counted-more c.args.known.now.nodes.now c.loop-node.node c.loop-node.counted _ _ c.loop-node.invariant
    (counted-at c.args.known.now.nodes.now c.loop-node.node c.get.result.now _ (c.requires.waits.each c.loop-node.node c.get.result.now c.get.ensures) c.in-Ok.ensures)
    c.in_ok-push-in-Ok.ensures.ok

pub loop-node-init : goal.loop-node-init
loop-node-init c = counted-none c.args.known.now.nodes.now _ c.new-counted.ensures

pub returns : goal.returns
returns c =
    let len = c.requires.waits.len in
    counted-all c.args.known.now.nodes.now c.loop-node.node c.loop-node.counted c.loop-node.invariant (omega arith)
