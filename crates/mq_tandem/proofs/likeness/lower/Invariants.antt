use Rattle.mq_maxplus.specs.declared.mp.Mp.TheVariants.{Void}
use Rattle.mq_tandem.specs.Rows.{mp_minus}
use Rattle.mq_tandem.proofs.Mapping.{Mapping}
use Rattle.mq_tandem.proofs.likeness.lower.Given as goal

abbrev pub invariant-loop-row : goal.invariant-loop-row
invariant-loop-row l = Mapping Void (mp_minus l.by) l.fn.rows l.rows l.row
