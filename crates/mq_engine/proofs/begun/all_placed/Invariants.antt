use Rattle.std.proofs.Common.{◌≤◌, length}
use Rattle.std.specs.Vec.{vec_capacity}
use Rattle.mq_engine.proofs.Placing.{ArePlacing}
use Rattle.mq_engine.proofs.begun.all_placed.Given as goal

abbrev pub invariant-loop-one : goal.invariant-loop-one
invariant-loop-one l = record {
  are : ArePlacing l.arriving l.initial.arrived.items l.arrived.items l.servings.items l.places.items;
  room : length l.initial.arrived.items ≤ vec_capacity l.places;
}

abbrev pub decreases-loop-one : goal.decreases-loop-one
decreases-loop-one l = length l.arrived.items
