use Rattle.std.proofs.Common.{count_by}
use Rattle.mq_engine.specs.Progress.{IsReached, is_waiting}
use Rattle.mq_engine.proofs.run.Given as goal

abbrev pub invariant-waves : goal.invariant-waves
invariant-waves g l = IsReached l.plan l.rows l.progress.visits.items l.progress.outputs.items l.progress.stands.items

abbrev pub decreases-waves : goal.decreases-waves
decreases-waves g l = count_by is_waiting l.progress.stands.items
