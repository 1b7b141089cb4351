use Rattle.std.proofs.Common.{List, subst, sym}
use Rattle.std.specs.List.{AllByRecursion}
use Rattle.std.specs.Prelude.{Contains, ◌≡◌}
use Rattle.std.proofs.lemmas.Result.{IfOk-weaker}
use Rattle.mq_exits.specs.Keeping.{Whose}
use Rattle.mq_exits.specs.Loads.{IsLoadOf}
use Rattle.mq_engine.proofs.InPlace.{each-same}
use Rattle.mq_engine.specs.Places.{IsPlace}
use Rattle.mq_engine.specs.declared.places.Place.{Place}
use Rattle.mq_engine.proofs.ready.given_by.Goals as goal

pub rounds-requires-clause-fit : goal.rounds-requires-clause-fit
rounds-requires-clause-fit g c κs within = subst (AllByRecursion (IsPlace c.args.keep)) (sym c.into_vec-places.ensures) (c.in_ok-places_of.ensures.fit c.args.keep)

pub returns-clause-known : goal.returns-clause-known
returns-clause-known g c =
    let s = c.args.arriving.now in
    let began = subst (λ (l : List Place). AllByRecursion (λ (p : Place). IsLoadOf s.plan.now s.rows.now s.ready.now p.held) l) (sym c.into_vec-places.ensures) c.in_ok-places_of.ensures.of in
    let ended = each-same (λ (w : Whose). (w.0 ≡ s.plan.now) × (w.1 ≡ s.rows.now) × Contains s.ready.now w.2) c.rounds.new.places.items c.into_vec-places.result.items c.in-Ok.ensures.same began in
    IfOk-weaker c.all_given.result _ _ (λ given h. h c.args.keep s.plan.now s.rows.now s.ready.now c.in-Ok.ensures.fit ended) c.all_given.ensures.given
