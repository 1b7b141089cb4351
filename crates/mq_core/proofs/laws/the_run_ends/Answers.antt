use Rattle.mq_core.proofs.EachKind.Ends.{run-ended}
use Rattle.mq_core.proofs.laws.the_run_ends.Goals as goal

pub returns : goal.returns
returns c = run-ended
