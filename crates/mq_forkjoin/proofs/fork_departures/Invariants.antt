use Rattle.mq_forkjoin.proofs.ForkJoining.{ForkJoining}
use Rattle.mq_forkjoin.proofs.fork_departures.Given as goal

abbrev pub invariant-loop-branch : goal.invariant-loop-branch
invariant-loop-branch l = ForkJoining l.stream.time l.departs l.demands l.branches l.branch l.end

-- the branches that are left
abbrev pub decreases-loop-branch : goal.decreases-loop-branch
decreases-loop-branch l = l.branch
