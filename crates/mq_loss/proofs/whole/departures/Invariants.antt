use Rattle.std.proofs.Common.{◌≡◌, ◌++◌, drop}
use Rattle.std.specs.Prelude.{reverse}
use Rattle.mq_loss.specs.Rounds.{departure_behind}
use Rattle.mq_loss.proofs.Departing.{IsEarly}
use Rattle.mq_rounds.specs.Rounds.{departures_from, departures_of}
use Rattle.mq_loss.proofs.whole.departures.Given as goal

-- the departures so far and those of what is left are all
abbrev pub invariant-loop-at : goal.invariant-loop-at
invariant-loop-at l = record {
  so_far :
      l.departs ++ departures_from departure_behind (reverse l.departs) (drop l.at l.stream.time) (drop l.at l.demands) (drop l.at l.admitted)
      ≡ departures_of departure_behind l.stream.time l.demands l.admitted;
  early : IsEarly (reverse l.departs) l.at;
}
