use Rattle.std.proofs.Common.{arith}
use Rattle.mq_stations.proofs.FirstLate.{early-next, late-at, late-end}
use Rattle.mq_stations.proofs.late.first_after.Goals as goal

pub loop-position-preserved : goal.loop-position-preserved
loop-position-preserved c = early-next c.args.bound c.args.node c.loop-position.position c.get-time.result.now c.args.departs.now _ c.get-time.ensures c.if-time-bound.false c.loop-position.invariant

pub returns-then-time-bound : goal.returns-then-time-bound
returns-then-time-bound c = late-at c.args.bound c.args.node c.loop-position.position c.get-time.result.now c.args.departs.now _ c.get-time.ensures c.if-time-bound.true c.loop-position.invariant

pub returns : goal.returns
returns c = late-end c.args.bound c.args.node c.loop-position.position c.args.departs.now _ (omega arith) c.loop-position.invariant
