use Rattle.std.proofs.Common.{◌≡◌, ◌++◌, length, take, drop, slice_index}
use Rattle.mq_forkjoin.specs.Runs.{asked_at, job_run}
use Rattle.mq_forkjoin.proofs.step.ForkJoinStep.serve.Given as goal

-- the job has gone through the servers so far
abbrev pub invariant-loop-server : goal.invariant-loop-server
invariant-loop-server l = record {
  long : length l.last ≡ 8;
  run : job_run l.came 0 l.self.begins.now (asked_at l.self.demands.now l.at) l.fn.last ≡ take l.server l.last ++ job_run l.came l.time (drop l.server l.self.begins.now) (drop l.server (asked_at l.self.demands.now l.at)) (drop l.server l.last);
}
