use Rattle.mq_core.proofs.Join.TakenOut.{departs-as_taken_out}
use Rattle.mq_core.proofs.laws.departs_as_taken_out.Goals as goal

pub returns : goal.returns
returns c = departs-as_taken_out
