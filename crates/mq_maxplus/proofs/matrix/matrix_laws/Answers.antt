use Rattle.std.proofs.Common.{length, refl}
use Rattle.mq_maxplus.proofs.Columns.{entry-act, entry-then, unit-column}
use Rattle.mq_maxplus.proofs.MatrixLaws.{act-units, acts, joins}
use Rattle.mq_maxplus.proofs.matrix.matrix_laws.Goals as goal

pub returns : goal.returns
returns c = record { rows = entry-act; acts = acts; joins = joins; products = entry-then; diagonal = unit-column; units = λ x. act-units (length x) x refl }
