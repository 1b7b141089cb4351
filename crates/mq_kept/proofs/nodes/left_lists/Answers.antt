use Rattle.mq_kept.proofs.Ended.{ended-checkpoints, ended-fault, ended-on_time}
use Rattle.mq_merge.specs.Borrowed.{stream_in}
use Rattle.mq_kept.proofs.nodes.left_lists.Goals as goal

pub returns-clause-known : goal.returns-clause-known
returns-clause-known g c = let held = c.args.held in ended-on_time held.plan.now held.rows.now held.number c.in-Ok.node_result.ending c.lists_by.result c.in-Ok.ensures c.lists_by.ensures.ends

pub returns-clause-checkpoints : goal.returns-clause-checkpoints
returns-clause-checkpoints g c =
    let held = c.args.held in
    ended-checkpoints c.core_laws.ensures held.plan.now held.rows.now held.number held.block (stream_in held.arrivals) c.in-Ok.node_result.ending c.args.reworked.checkpoints c.lists_by.result c.requires.ready.0 c.requires.ready.1 c.in-Ok.ensures c.lists_by.ensures.ends c.lists_by.ensures.checkpoints c.requires.checkpoints

pub returns-clause-cause : goal.returns-clause-cause
returns-clause-cause g c = let held = c.args.held in ended-fault held.plan.now held.rows.now held.number c.in-Ok.node_result.ending c.lists_by.result c.in-Ok.ensures c.lists_by.ensures.cause
