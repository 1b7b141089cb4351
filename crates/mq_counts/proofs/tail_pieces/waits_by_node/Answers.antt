use Rattle.std.proofs.Common.{arith}
use Rattle.mq_counts.proofs.CountedTails.{waits-all, waits-more, waits-none, waits-of}
use Rattle.mq_counts.proofs.Lists.{each-has}
use Rattle.mq_counts.specs.Totals.{IsVisited}
use Rattle.mq_counts.proofs.tail_pieces.waits_by_node.Goals as goal

pub waits_of_node-requires : goal.waits_of_node-requires
waits_of_node-requires c = record { visited = each-has IsVisited c.args.known.now.nodes.now c.loop-node.node c.get.result.now c.requires.visited c.get.ensures }

pub push_reserved-requires : goal.push_reserved-requires
push_reserved-requires c = omega (arith, c.loop-node.invariant.so_far.len, c.loop-node.invariant.room, c.loop-node-test.true, c.len-node-end.ensures)

pub loop-node-preserved : goal.loop-node-preserved
loop-node-preserved c = record {
  room = omega (arith, c.loop-node.invariant.room, c.push_reserved.ensures.capacity);
  so_far = waits-more c.args.known.now.nodes.now c.loop-node.node c.loop-node.all.items _ c.waits_of_node.result c.loop-node.invariant.so_far c.waits_of_node.ensures.waited
      (waits-of c.args.known.now.nodes.now c.loop-node.node c.get.result.now c.waits_of_node.result c.get.ensures c.waits_of_node.ensures.waits) c.push_reserved.ensures.items;
}

pub loop-node-init : goal.loop-node-init
loop-node-init c = record {
  room = omega (arith, c.in_ok-all.ensures.capacity, c.len.ensures);
  so_far = waits-none c.args.known.now.nodes.now _ c.in_ok-all.ensures.items;
}

pub returns : goal.returns
returns c = waits-all c.args.known.now.nodes.now c.loop-node.node c.loop-node.all.items c.from_vec.result c.loop-node.invariant.so_far (omega arith) c.from_vec.ensures
