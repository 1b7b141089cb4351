use Rattle.std.proofs.Common.{arith}
use Rattle.mq_core.proofs.lemmas.Plans.{within-limits}
use Rattle.mq_counts.proofs.Endings.{sequences-all, sequences-more, sequences-none}
use Rattle.mq_counts.proofs.runs.sequences_by_node.Goals as goal

pub overflow_cast-node : goal.overflow_cast-node
overflow_cast-node c =
    let few = (within-limits c.args.plan.now).0 in
    omega arith

pub loop-node-preserved : goal.loop-node-preserved
loop-node-preserved c =
    sequences-more c.args.plan.now c.args.rows.now c.loop-node.node c.loop-node.all _ c.get-declared.result.now c.sequences_at.result c.loop-node.invariant c.get-declared.ensures c.sequences_at.ensures.countable c.sequences_at.ensures.its c.in_ok-push.ensures.ok

pub loop-node-init : goal.loop-node-init
loop-node-init c = sequences-none c.args.plan.now c.args.rows.now _ c.new-all.ensures

pub returns : goal.returns
returns c = sequences-all c.args.plan.now c.args.rows.now c.loop-node.node c.loop-node.all c.loop-node.invariant (omega arith)
