use Rattle.std.proofs.Common.{◌≡◌, ◌≤◌, ◌++◌, true, false, length, map}
use Rattle.std.specs.Vec.{vec_len, vec_capacity}
use Rattle.mq_core.specs.Streams.{picked}
use Rattle.mq_stations.specs.Losses.{out_of_admission}
use Rattle.mq_stations.proofs.LossFates.{left}
use Rattle.mq_stations.proofs.loss.streams_of.Given as goal

-- what has left so far and what is left are all, for which there is room
abbrev pub invariant-loop-at : goal.invariant-loop-at
invariant-loop-at l = record {
  admitted : l.served.items ++ left true l.admitted l.arrivals.job l.at ≡ picked 0 (map out_of_admission l.admitted) l.arrivals.job;
  jobs : l.job.items ++ left false l.admitted l.arrivals.job l.at ≡ picked 1 (map out_of_admission l.admitted) l.arrivals.job;
  times : l.time.items ++ left false l.admitted l.arrivals.time l.at ≡ picked 1 (map out_of_admission l.admitted) l.arrivals.time;
  even : vec_len l.job ≡ vec_len l.time;
  room : length (picked 0 (map out_of_admission l.admitted) l.arrivals.job) ≤ vec_capacity l.served;
  space : length (picked 1 (map out_of_admission l.admitted) l.arrivals.job) ≤ vec_capacity l.job;
  same : vec_capacity l.job ≤ vec_capacity l.time;
}
