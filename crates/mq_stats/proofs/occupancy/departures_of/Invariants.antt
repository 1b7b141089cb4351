use Rattle.std.proofs.Common.{◌≡◌, ◌≤◌, ◌++◌, drop, length}
use Rattle.std.specs.Vec.{vec_len, vec_capacity}
use Rattle.mq_stats.specs.Departures.{departures_from}
use Rattle.mq_stats.proofs.occupancy.departures_of.Given as goal

-- the departures so far and those of what is left are all
abbrev pub invariant-loop-at : goal.invariant-loop-at
invariant-loop-at l = record {
  so_far : l.departures.items ++ departures_from l.at (drop l.at l.fates) ≡ departures_from 0 l.fates;
  len : vec_len l.departures ≤ l.at;
  room : length l.fates ≤ vec_capacity l.departures;
}
