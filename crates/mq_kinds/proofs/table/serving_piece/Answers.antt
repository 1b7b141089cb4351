use Rattle.std.proofs.Common.{◌<◌, arith, subst}
use Rattle.mq_kinds.specs.Table.{serving_size}
use Rattle.mq_kinds.specs.declared.table.Serving.{Serving}
use Rattle.mq_kinds.proofs.table.serving_piece.Goals as goal

pub unreachable-requires : goal.unreachable-requires
unreachable-requires c = let none : c.args.b < 0 = subst (λ (s : Serving). c.args.b < serving_size s) c.in-Server.is c.requires.inside in omega arith
