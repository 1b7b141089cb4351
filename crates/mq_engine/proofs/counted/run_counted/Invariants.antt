use Rattle.std.proofs.Common.{count_by}
use Rattle.mq_engine.specs.Counting.{IsCounting}
use Rattle.mq_engine.specs.Progress.{is_waiting}
use Rattle.mq_engine.proofs.counted.run_counted.Given as goal

abbrev pub invariant-waves : goal.invariant-waves
invariant-waves g l = IsCounting l.plan l.rows l.form l.counting.counts.items l.counting.outputs.items l.counting.stands.items

abbrev pub decreases-waves : goal.decreases-waves
decreases-waves g l = count_by is_waiting l.counting.stands.items
