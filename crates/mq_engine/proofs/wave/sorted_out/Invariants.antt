use Rattle.std.proofs.Common.{◌≡◌, ◌+◌, length}
use Rattle.mq_engine.specs.Waves.{AreSorted}
use Rattle.mq_engine.proofs.wave.sorted_out.Given as goal

-- the nodes so far
abbrev pub invariant-loop-at : goal.invariant-loop-at
invariant-loop-at l = record {
  len : length l.wave.crowded + length l.wave.apart.items + length l.wave.stations.items ≡ l.at;
  sorted : AreSorted l.arriving l.wave;
}
