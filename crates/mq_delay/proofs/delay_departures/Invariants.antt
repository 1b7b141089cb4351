use Rattle.std.proofs.Common.{◌≡◌, ◌≤◌, ◌++◌, drop, length}
use Rattle.std.specs.Vec.{vec_len, vec_capacity}
use Rattle.mq_core.specs.Recurrences.{delayed}
use Rattle.mq_delay.proofs.delay_departures.Given as goal

-- the departures so far and those of what is left are all
abbrev pub invariant-loop-at : goal.invariant-loop-at
invariant-loop-at l = record {
  so_far : l.departs.items ++ delayed (drop l.at l.stream.time) (drop l.at l.demands) ≡ delayed l.stream.time l.demands;
  len : vec_len l.departs ≡ l.at;
  room : length l.stream.time ≤ vec_capacity l.departs;
}
