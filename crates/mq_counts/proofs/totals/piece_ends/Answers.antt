use Rattle.std.proofs.Common.{arith}
use Rattle.mq_counts.proofs.Pieces.{piece-inside}
use Rattle.mq_counts.proofs.totals.piece_ends.Goals as goal

pub overflow_mul-from : goal.overflow_mul-from
overflow_mul-from c = let inside = piece-inside c.args.size c.args.count c.args.b c.requires.some c.requires.inside in omega arith

pub overflow_add-next : goal.overflow_add-next
overflow_add-next c = let inside = piece-inside c.args.size c.args.count c.args.b c.requires.some c.requires.inside in omega arith

pub returns-clause-from : goal.returns-clause-from
returns-clause-from c = let inside = piece-inside c.args.size c.args.count c.args.b c.requires.some c.requires.inside in omega arith

pub returns-clause-to : goal.returns-clause-to
returns-clause-to c = let inside = piece-inside c.args.size c.args.count c.args.b c.requires.some c.requires.inside in omega arith
