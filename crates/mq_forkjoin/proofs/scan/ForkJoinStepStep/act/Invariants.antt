use Rattle.std.proofs.Common.{◌≡◌, ◌-◌, ◌≤◌}
use Rattle.mq_forkjoin.specs.Runs.{range_run}
use Rattle.mq_forkjoin.proofs.scan.ForkJoinStepStep.act.Given as goal

-- the jobs so far have acted
abbrev pub invariant-loop-at : goal.invariant-loop-at
invariant-loop-at l = record {
  begun : l.fn.s.from ≤ l.at;
  run : l.last ≡ range_run l.fn.s.step.arrive.now l.fn.s.step.begins.now l.fn.s.step.demands.now l.fn.s.from (l.at - l.fn.s.from) l.fn.c;
}
