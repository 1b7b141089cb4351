use Rattle.mq_crew.specs.Crew.{AreAll}
use Rattle.mq_kinds.specs.ForkJoins.{AreCarriesAt}
use Rattle.mq_kinds.proofs.forkjoin.carries_of.Given as goal

-- the branches so far
abbrev pub invariant-loop-at : goal.invariant-loop-at
invariant-loop-at l = AreAll (AreCarriesAt l.arrivals.time l.work) l.at l.all
