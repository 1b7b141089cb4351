use Rattle.mq_maxplus.specs.declared.mp.Mp.TheVariants.{Void, At}
use Rattle.mq_maxplus.specs.Maxplus.{mp_plus}
use Rattle.mq_tandem.proofs.Mapping.{Mapping}
use Rattle.mq_tandem.proofs.likeness.raise.Given as goal

abbrev pub invariant-loop-row : goal.invariant-loop-row
invariant-loop-row l = Mapping Void (mp_plus (At l.by)) l.fn.rows l.rows l.row
