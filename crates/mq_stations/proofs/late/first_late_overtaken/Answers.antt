use Rattle.std.proofs.Common.{ap, arith}
use Rattle.mq_core.specs.Results.{first_of}
use Rattle.mq_stations.proofs.FirstLate.{none-leaves, none-overtaken}
use Rattle.mq_stations.proofs.late.first_late_overtaken.Goals as goal

pub returns-then-count-eq0 : goal.returns-then-count-eq0
returns-then-count-eq0 c = ap first_of (none-leaves c.args.bound c.args.node c.args.departs.now c.args.leaving.now c.requires.leaving (omega arith))

pub returns-then-last-bound : goal.returns-then-last-bound
returns-then-last-bound c = ap first_of (none-overtaken c.args.bound c.args.node c.args.departs.now c.args.leaving.now _ c.get-last.result.now c.requires.leaving c.get-last.ensures (omega arith) c.if-last-bound.true)
