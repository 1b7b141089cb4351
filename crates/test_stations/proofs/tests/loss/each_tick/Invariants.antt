use Rattle.std.proofs.Common.{◌≡◌, ◌≤◌, ◌^◌, length}
use Rattle.std.specs.Prelude.{All}
use Rattle.test_stations.proofs.tests.loss.each_tick.Given as goal

abbrev pub invariant-loop-at : goal.invariant-loop-at
invariant-loop-at l = record {
  times : length l.time ≡ l.at;
  demands : length l.demands ≡ l.at;
  early : All (λ time. time ≤ 2 ^ 60) l.time;
  small : All (λ demand. demand ≤ 2 ^ 36) l.demands;
}
