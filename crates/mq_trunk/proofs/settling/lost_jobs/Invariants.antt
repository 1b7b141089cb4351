use Rattle.std.proofs.Common.{◌≡◌, ◌≤◌, ◌++◌, drop, length}
use Rattle.std.specs.Vec.{vec_len, vec_capacity}
use Rattle.mq_trunk.specs.Parts.{of_lost}
use Rattle.mq_trunk.proofs.settling.lost_jobs.Given as goal

-- the jobs so far and those of what is left are all, for which there is room, and so are the times
abbrev pub invariant-loop-at : goal.invariant-loop-at
invariant-loop-at l = record {
  jobs : l.job.items ++ of_lost (drop l.at l.admitted) (drop l.at l.stream.job) ≡ of_lost l.admitted l.stream.job;
  times : l.time.items ++ of_lost (drop l.at l.admitted) (drop l.at l.stream.time) ≡ of_lost l.admitted l.stream.time;
  even : vec_len l.job ≡ vec_len l.time;
  room : length (of_lost l.admitted l.stream.job) ≤ vec_capacity l.job;
  space : length (of_lost l.admitted l.stream.job) ≤ vec_capacity l.time;
}
