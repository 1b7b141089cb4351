use Rattle.std.proofs.Common.{◌<◌, ◌^◌, List, subst, sym}
use Rattle.mq_crew.specs.Crew.{total_size}
use Rattle.std.specs.List.{AllByRecursion}
use Rattle.mq_base.proofs.lemmas.Each.{Each-weaker}
use Rattle.mq_engine.proofs.InPlace.{IsSomePlace, places-few}
use Rattle.mq_engine.specs.Places.{IsPlace, place_size}
use Rattle.mq_engine.specs.declared.places.Place.{Place}
use Rattle.mq_engine.proofs.places.round.Goals as goal

pub parts-requires-clause-few : goal.parts-requires-clause-few
parts-requires-clause-few g c κs within = subst (λ (l : List Place). total_size place_size l < 2 ^ 32) (sym c.as_slice.ensures.value) (places-few c.args.keep c.args.places.now.items c.requires.few c.requires.fit)

pub parts-requires-clause-fit : goal.parts-requires-clause-fit
parts-requires-clause-fit g c κs within =
    subst (AllByRecursion IsSomePlace) (sym c.as_slice.ensures.value) (Each-weaker (IsPlace c.args.keep) IsSomePlace (λ p h. (c.args.keep, h)) c.args.places.now.items c.requires.fit)
