use Rattle.mq_counts.specs.Counts.{AreVisitsIn}
use Rattle.mq_counts.proofs.counts.all_visits.Given as goal

-- those so far
abbrev pub invariant-loop-at : goal.invariant-loop-at
invariant-loop-at l = AreVisitsIn l.rows l.all l.at l.visits
