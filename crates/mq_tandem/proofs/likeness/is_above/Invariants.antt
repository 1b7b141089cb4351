use Rattle.std.proofs.Common.{◌≡◌, take}
use Rattle.mq_maxplus.specs.declared.mp.Mp.TheVariants.{At}
use Rattle.mq_maxplus.specs.Matrices.{vec_plus}
use Rattle.mq_tandem.proofs.likeness.is_above.Given as goal

abbrev pub invariant-loop-row : goal.invariant-loop-row
invariant-loop-row l = take l.row l.high ≡ take l.row (vec_plus (At l.by) l.low)
