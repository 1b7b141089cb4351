use Rattle.std.proofs.Common.{◌<◌, ◌^◌, length, rules}
use Rattle.mq_pass.proofs.rest.RestPieces.count.Goals as goal

pub overflow_cast-result : goal.overflow_cast-result
overflow_cast-result c = let few : length c.args.self.now.left.now < 2 ^ 32 = c.args.self.now.few in search rules
