use Rattle.std.proofs.Common.{arith}
use Rattle.mq_core.proofs.ForkJoin.ForkJoinSums.{servers-next}
use Rattle.mq_core.proofs.kinds.servers_of_branches.Goals as goal

pub overflow_cast-servers : goal.overflow_cast-servers
overflow_cast-servers c =
    let next = servers-next c.args.branches.now c.loop-at.servers _ c.loop-at.at _ c.get.ensures c.loop-at.invariant in
    let value = c.len.ensures in
    let most = c.requires in
    omega arith

pub overflow_add-servers : goal.overflow_add-servers
overflow_add-servers c =
    let next = servers-next c.args.branches.now c.loop-at.servers _ c.loop-at.at _ c.get.ensures c.loop-at.invariant in
    let value = c.len.ensures in
    let most = c.requires in
    omega arith

pub loop-at-preserved : goal.loop-at-preserved
loop-at-preserved c =
    let next = servers-next c.args.branches.now c.loop-at.servers _ c.loop-at.at _ c.get.ensures c.loop-at.invariant in
    let value = c.len.ensures in
    let most = c.requires in
    omega arith
