use Rattle.std.proofs.Common.{ℕ, ◌≡◌, arith, length, subst}
use Rattle.mq_crew.specs.Crew.{AreAll}
use Rattle.mq_counts.proofs.Lists.{all-more, all-none, each-has}
use Rattle.mq_counts.proofs.NodeTotals.{sum-in}
use Rattle.mq_counts.specs.Totals.{IsSumIn, IsVisited}
use Rattle.mq_counts.proofs.totals.sums_of.Goals as goal

pub sum_of-requires-clause-visited : goal.sum_of-requires-clause-visited
sum_of-requires-clause-visited c = each-has IsVisited c.args.nodes.now c.loop-node.node c.get.result.now c.requires.visited c.get.ensures

pub loop-node-preserved : goal.loop-node-preserved
loop-node-preserved c =
    all-more (IsSumIn c.args.nodes.now) c.loop-node.node c.loop-node.sums _ c.in-Ok.sum c.loop-node.invariant
    (sum-in c.args.nodes.now c.loop-node.node c.get.result.now c.in-Ok.sum c.get.ensures c.in-Ok.ensures)
    c.in_ok-push-in-Ok.ensures.ok

pub returns : goal.returns
returns c =
    let end : c.loop-node.node ≡ length c.args.nodes.now = omega arith in
    subst (λ (n : ℕ). AreAll (IsSumIn c.args.nodes.now) n c.loop-node.sums) end c.loop-node.invariant

pub loop-node-init : goal.loop-node-init
loop-node-init c = all-none (IsSumIn c.args.nodes.now) _ c.new-sums.ensures
