use Rattle.std.proofs.Common.{arith}
use Rattle.mq_trunk.proofs.Keeping.{busy-few}
use Rattle.mq_trunk.proofs.windows.judge_arrival.Goals as goal

pub overflow_cast-busy_at_most : goal.overflow_cast-busy_at_most
overflow_cast-busy_at_most g c = let few = busy-few c.args.arrive c.args.latest.now in let number = c.requires.number in omega arith
