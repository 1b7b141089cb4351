use Rattle.mq_forkjoin.specs.Branches.{Passing}
use Rattle.mq_forkjoin.proofs.branch_departures.Given as goal

abbrev pub invariant-loop-column : goal.invariant-loop-column
invariant-loop-column l = Passing l.arrive l.departs l.demands l.column-index
