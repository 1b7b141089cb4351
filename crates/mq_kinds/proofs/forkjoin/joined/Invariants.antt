use Rattle.mq_crew.specs.Crew.{AreAll}
use Rattle.mq_kinds.specs.Branches.{AreDepartsAt}
use Rattle.mq_kinds.proofs.forkjoin.joined.Given as goal

-- the departures so far
abbrev pub invariant-loop-at : goal.invariant-loop-at
invariant-loop-at l = AreAll (AreDepartsAt l.arrivals.time l.work.server l.work.passage) l.at l.all
