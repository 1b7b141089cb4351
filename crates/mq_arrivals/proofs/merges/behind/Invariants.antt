use Rattle.mq_crew.specs.Crew.{AreAll}
use Rattle.mq_arrivals.specs.Arrivals.{Pairs}
use Rattle.mq_arrivals.specs.Merges.{IsBlockOf}
use Rattle.mq_arrivals.proofs.Comings.{AreBehind}
use Rattle.mq_arrivals.proofs.merges.behind.Given as goal

-- the blocks so far, one behind the other
abbrev pub invariant-loop-b : goal.invariant-loop-b
invariant-loop-b l = (pairs : Pairs) → AreAll (IsBlockOf pairs l.blocks) l.blocks.blocks l.group → AreBehind pairs l.blocks l.b l.time.items l.job.items
