use Rattle.std.proofs.Common.{◌≡◌, map}
use Rattle.std.specs.List.{AllByRecursion}
use Rattle.mq_exits.specs.Keeping.{whose}
use Rattle.mq_engine.specs.Places.{IsPlace, all_steps}
use Rattle.mq_engine.specs.declared.places.Place.{Place}
use Rattle.mq_engine.proofs.places.rounds.Given as goal

abbrev pub invariant-rounds : goal.invariant-rounds
invariant-rounds g l = record {
  fit : AllByRecursion (IsPlace l.keep) l.places.items;
  same : map (λ (p : Place). whose p.held) l.places.items ≡ map (λ (p : Place). whose p.held) l.initial.places.items;
}

abbrev pub decreases-rounds : goal.decreases-rounds
decreases-rounds g l = all_steps l.places.items
