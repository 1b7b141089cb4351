use Rattle.std.proofs.Common.{arith}
use Rattle.mq_counts.proofs.Exits.{exit-all, exit-before-more, exit-is-small, exits-are-few}
use Rattle.mq_counts.proofs.Lists.{among-all}
use Rattle.mq_counts.specs.Leaving.{AreExitsIn, IsExitIn, exit_pieces}
use Rattle.mq_counts.proofs.leaving.exit_of.Goals as goal

-- what leaves by the output in the next piece
its : (c : goal.After-get-in-loop-b) → IsExitIn c.args.node.now c.loop-b.b c.args.output c.get-in-loop-b.result.now
its c =
    among-all (IsExitIn c.args.node.now c.loop-b.b) _ c.get.result.now c.args.output c.get-in-loop-b.result.now
    (among-all (AreExitsIn c.args.node.now) (exit_pieces c.args.node.now) c.args.parts.now c.loop-b.b c.get.result.now c.requires.parts c.get.ensures) c.get-in-loop-b.ensures

pub get-requires-in-loop-b : goal.get-requires-in-loop-b
get-requires-in-loop-b c =
    let len = (among-all (AreExitsIn c.args.node.now) (exit_pieces c.args.node.now) c.args.parts.now c.loop-b.b c.get.result.now c.requires.parts c.get.ensures).len in
    let inside = c.requires.inside in
    omega arith

pub exits_added-sum-requires-clause-before : goal.exits_added-sum-requires-clause-before
exits_added-sum-requires-clause-before c = (exit-is-small c.args.node.now c.args.output c.loop-b.b c.loop-b.sum c.get-in-loop-b.result.now c.requires.inside c.requires.told c.loop-b.invariant (its c)).0

pub exits_added-sum-requires-clause-after : goal.exits_added-sum-requires-clause-after
exits_added-sum-requires-clause-after c = (exit-is-small c.args.node.now c.args.output c.loop-b.b c.loop-b.sum c.get-in-loop-b.result.now c.requires.inside c.requires.told c.loop-b.invariant (its c)).1

pub exits_added-sum-requires-clause-few : goal.exits_added-sum-requires-clause-few
exits_added-sum-requires-clause-few c = exits-are-few c.args.node.now c.args.output c.loop-b.b c.loop-b.sum c.get-in-loop-b.result.now c.requires.fit c.requires.inside c.requires.told c.loop-b.invariant (its c)

pub loop-b-preserved : goal.loop-b-preserved
loop-b-preserved c =
    exit-before-more c.exits_join.ensures c.args.node.now c.args.output c.loop-b.b c.loop-b.sum c.get-in-loop-b.result.now c.exits_added-sum.result c.requires.fit c.loop-b.invariant
    (among-all (IsExitIn c.args.node.now c.loop-b.b) _ c.get.result.now c.args.output c.get-in-loop-b.result.now
    (among-all (AreExitsIn c.args.node.now) (exit_pieces c.args.node.now) c.args.parts.now c.loop-b.b c.get.result.now c.requires.parts c.get.ensures) c.get-in-loop-b.ensures)
    c.exits_added-sum.ensures.count c.exits_added-sum.ensures.sojourn

pub returns : goal.returns
returns c =
    let len = c.requires.parts.len in
    exit-all c.exits_join.ensures c.args.node.now c.args.output c.loop-b.b c.loop-b.sum c.requires.fit (omega arith) c.loop-b.invariant
