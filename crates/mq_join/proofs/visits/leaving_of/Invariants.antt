use Rattle.std.proofs.Common.{◌≡◌, ◌++◌, drop}
use Rattle.mq_core.specs.Kinds.Join.{wholes_from}
use Rattle.mq_join.proofs.visits.leaving_of.Given as goal

abbrev pub invariant-loop-at : goal.invariant-loop-at
invariant-loop-at l = record {
  jobs : l.leaving.job ++ wholes_from l.at (drop l.at l.matches) (drop l.at l.stream.job) ≡ wholes_from 0 l.matches l.stream.job;
  times : l.leaving.time ++ wholes_from l.at (drop l.at l.matches) (drop l.at l.stream.time) ≡ wholes_from 0 l.matches l.stream.time;
}
