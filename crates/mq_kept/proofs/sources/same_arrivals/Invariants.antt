use Rattle.std.proofs.Common.{◌≡◌, take}
use Rattle.mq_kept.proofs.sources.same_arrivals.Given as goal

-- the jobs and times so far are the same
abbrev pub invariant-loop-at : goal.invariant-loop-at
invariant-loop-at l = record {
  jobs : take l.at l.jobs ≡ take l.at l.arrivals.job;
  times : take l.at l.times ≡ take l.at l.arrivals.time;
}
