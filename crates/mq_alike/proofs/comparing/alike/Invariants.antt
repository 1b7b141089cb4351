use Rattle.std.proofs.Common.{◌≡◌, ◌+◌, drop}
use Rattle.mq_alike.specs.Again.{alike_from}
use Rattle.mq_edits.specs.Former.{rows_before}
use Rattle.mq_alike.proofs.comparing.alike.Given as goal

-- the visits so far are the same
abbrev pub invariant-loop-at : goal.invariant-loop-at
invariant-loop-at l = alike_from l.kind (rows_before l.former l.rows) l.visits.job l.visits.arrive l.rows l.arrivals.job l.arrivals.time ≡ l.at + alike_from l.kind (rows_before l.former l.rows) (drop l.at l.visits.job) (drop l.at l.visits.arrive) l.rows (drop l.at l.arrivals.job) (drop l.at l.arrivals.time)
