use Rattle.std.proofs.Common.{subst, arith}
use Rattle.mq_exits.specs.Keeping.{IsEmptiedOf}
use Rattle.mq_engine.proofs.places.work_left.Goals as goal

pub returns-in-Keeping : goal.returns-in-Keeping
returns-in-Keeping g c = ((c.requires.ready, subst (IsEmptiedOf c.args.keep c.args.held.now) c.in-Keeping.is c.in_ok-keeping.ensures), omega arith)

pub returns-in-Ended : goal.returns-in-Ended
returns-in-Ended g c = (subst (IsEmptiedOf c.args.keep c.args.held.now) c.in-Ended.is c.in_ok-keeping.ensures, omega arith)
