use Rattle.std.proofs.Common.{◌≤◌, length}
use Rattle.std.specs.List.{AllByRecursion}
use Rattle.std.specs.Vec.{vec_capacity}
use Rattle.mq_exits.proofs.Making.{AreMade}
use Rattle.mq_exits.proofs.OfWave.{CanFinish, IsEndIn, IsListIn}
use Rattle.mq_exits.proofs.turns.finished.Given as goal

abbrev pub invariant-loop-one : goal.invariant-loop-one
invariant-loop-one l = record {
  are : AreMade CanFinish IsListIn IsEndIn (length l.initial.given.items) (λ w. AllByRecursion (IsListIn w) l.initial.given.items) l.given.items l.results.items;
  room : length l.initial.given.items ≤ vec_capacity l.results;
}

abbrev pub decreases-loop-one : goal.decreases-loop-one
decreases-loop-one l = length l.given.items
