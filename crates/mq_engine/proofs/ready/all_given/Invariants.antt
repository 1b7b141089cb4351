use Rattle.std.proofs.Common.{◌≤◌, length}
use Rattle.std.specs.List.{AllByRecursion}
use Rattle.std.specs.Vec.{vec_capacity}
use Rattle.mq_exits.proofs.Making.{AreMade}
use Rattle.mq_exits.proofs.OfWave.{IsGivenIn}
use Rattle.mq_engine.specs.Places.{HaveEnded}
use Rattle.mq_engine.proofs.Placing.{IsPlaceIn}
use Rattle.mq_engine.proofs.ready.all_given.Given as goal

abbrev pub invariant-loop-place : goal.invariant-loop-place
invariant-loop-place l = record {
  are : AreMade HaveEnded IsPlaceIn IsGivenIn (length l.initial.places.items) (λ k. AllByRecursion (IsPlaceIn k) l.initial.places.items) l.places.items l.given.items;
  room : length l.initial.places.items ≤ vec_capacity l.given;
}

abbrev pub decreases-loop-place : goal.decreases-loop-place
decreases-loop-place l = length l.places.items
