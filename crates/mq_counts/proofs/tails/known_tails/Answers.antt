use Rattle.std.proofs.Common.{ℕ, ◌≡◌, arith, length, subst, sym}
use Rattle.std.specs.Prelude.{IfSome}
use Rattle.mq_crew.specs.Crew.{AreAll}
use Rattle.mq_counts.proofs.Lists.{all-more, all-none}
use Rattle.mq_counts.specs.Tails.{IsTailIn}
use Rattle.mq_counts.proofs.tails.known_tails.Goals as goal

pub push_reserved-requires : goal.push_reserved-requires
push_reserved-requires c = omega (arith, c.loop-node.invariant.so_far.len, c.loop-node.invariant.room, c.loop-node-test.true)

pub loop-node-preserved : goal.loop-node-preserved
loop-node-preserved c = record {
  room = omega (arith, c.loop-node.invariant.room, c.push_reserved.ensures.capacity);
  so_far = all-more (IsTailIn c.args.of.now.known.nodes.now) c.loop-node.node c.loop-node.tails.items _ c.in-Some.tail c.loop-node.invariant.so_far (subst (λ known. IfSome known (IsTailIn c.args.of.now.known.nodes.now c.loop-node.node)) c.in-Some.is (c.requires.counted.each c.loop-node.node _ c.get.ensures)) c.push_reserved.ensures.items;
}

pub returns : goal.returns
returns c =
    let nodes = c.args.of.now.known.nodes.now in
    let end : c.loop-node.node ≡ length nodes = omega arith in
    subst (AreAll (IsTailIn nodes) (length nodes)) (sym c.from_vec.ensures)
    (subst (λ (n : ℕ). AreAll (IsTailIn nodes) n c.loop-node.tails.items) end c.loop-node.invariant.so_far)

pub loop-node-init : goal.loop-node-init
loop-node-init c = record {
  room = omega (arith, c.in_ok-tails.ensures.capacity);
  so_far = all-none (IsTailIn c.args.of.now.known.nodes.now) _ c.in_ok-tails.ensures.items;
}

pub get-requires : goal.get-requires
get-requires c = let len = c.requires.counted.len in omega (arith, len, c.loop-node-test.true, c.len-count.ensures)
