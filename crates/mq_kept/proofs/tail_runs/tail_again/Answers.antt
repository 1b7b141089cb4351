use Rattle.mq_kept.proofs.TailRuns.{node-served, node-stays, node-tail}
use Rattle.mq_kept.proofs.tail_runs.tail_again.Goals as goal

pub behind_first-requires-clause-tail : goal.behind_first-requires-clause-tail
behind_first-requires-clause-tail g c = node-tail c.alike_is_first.ensures c.args.load.now c.requires.stays.0 c.args.first c.args.lists.now c.requires.stays.2 c.requires.stays.1

pub behind_first-requires-clause-stays : goal.behind_first-requires-clause-stays
behind_first-requires-clause-stays g c = node-stays c.alike_is_first.ensures c.args.load.now c.requires.stays.0 c.args.first c.args.lists.now c.requires.stays.2

pub tail_put-put-requires : goal.tail_put-put-requires
tail_put-put-requires g c =
    let stays = c.requires.stays.2 in
    let behind = c.in_ok-times.ensures.done stays.node stays.there in
    (c.requires.stays.0, node-served c.alike_is_first.ensures c.args.load.now c.requires.stays.0 c.args.first c.args.lists.now stays stays.node stays.there c.as_slice.result.now c.in_ok-times.field-0.times.items c.as_slice.ensures.value c.in_ok-times.field-0.checkpoints behind.served behind.kept)
