use Rattle.std.proofs.Common.{◌∙◌, get_or, subst, sym}
use Rattle.std.proofs.lemmas.List.Elements.{All-from_recursion}
use Rattle.std.proofs.lemmas.Option.{slice_get-get_or}
use Rattle.std.proofs.lemmas.Result.{IfOk-weaker}
use Rattle.mq_base.proofs.lemmas.Lists.{some_inj}
use Rattle.mq_core.specs.declared.model.Node.{Node}
use Rattle.mq_core.specs.declared.model.Stream.{Stream}
use Rattle.mq_merge.specs.Borrowed.{stream_in}
use Rattle.mq_arrivals.specs.declared.nodes.Arrived.{Arrived}
use Rattle.mq_kinds.specs.Table.{IsServing}
use Rattle.mq_stations.specs.Leaving.{IsLoad}
use Rattle.mq_exits.proofs.Stations.{from-station, to-station}
use Rattle.mq_exits.specs.Loads.{IsLoaded}
use Rattle.mq_engine.proofs.InPlace.{station-load}
use Rattle.mq_engine.specs.Places.{IsServingAt, IsServingFor}
use Rattle.mq_engine.proofs.begun.BeginningPieces.piece.Goals as goal

pub station_of-load-requires-clause-loaded : goal.station_of-load-requires-clause-loaded
station_of-load-requires-clause-loaded c =
    let s = c.args.self.now in
    let here = All-from_recursion (λ (a : Arrived). IsLoaded s.plan.now s.rows.now a.number (stream_in a.arrivals)) s.arrived.now c.requires.fit.loaded c.args.b c.index-self-b.result c.requires.inside in
    subst (IsLoaded s.plan.now s.rows.now (get_or s.arrived.now c.args.b c.index-self-b.result).number) (sym c.stream-arrivals.ensures) here

pub serving_of-requires-clause-load : goal.serving_of-requires-clause-load
serving_of-requires-clause-load c =
    let s = c.args.self.now in
    let one = get_or s.arrived.now c.args.b c.index-self-b.result in
    let here = All-from_recursion (λ (a : Arrived). IsLoaded s.plan.now s.rows.now a.number (stream_in a.arrivals)) s.arrived.now c.requires.fit.loaded c.args.b c.index-self-b.result c.requires.inside in
    let loaded = subst (IsLoaded s.plan.now s.rows.now one.number) (sym c.stream-arrivals.ensures) here in
    to-station s.plan.now s.rows.now one.number c.stream-arrivals.result.now c.station_of-load.result c.station_of-load.ensures (λ r k a. IsLoad r k a)
    (λ node there. subst (λ (n : Node). IsLoad s.rows.now n.kind c.stream-arrivals.result.now) (some_inj loaded.node node (sym loaded.there ∙ there)) loaded.load)

pub serving_of-requires-clause-kind : goal.serving_of-requires-clause-kind
serving_of-requires-clause-kind c =
    let s = c.args.self.now in
    let one = get_or s.arrived.now c.args.b c.index-self-b.result in
    let here = All-from_recursion (λ (a : Arrived). IsLoaded s.plan.now s.rows.now a.number (stream_in a.arrivals)) s.arrived.now c.requires.fit.loaded c.args.b c.index-self-b.result c.requires.inside in
    station-load s.plan.now s.rows.now one.number c.stream-arrivals.result.now c.station_of-load.result c.station_of-load.ensures (subst (IsLoaded s.plan.now s.rows.now one.number) (sym c.stream-arrivals.ensures) here)

pub returns : goal.returns
returns c =
    let s = c.args.self.now in
    let one = get_or s.arrived.now c.args.b c.index-self-b.result in
    let there = slice_get-get_or s.arrived.now c.args.b c.index-self-b.result c.requires.inside in
    IfOk-weaker c.serving_of.result _ (IsServingFor s.plan.now s.rows.now s.arrived.now c.args.b)
    (λ serving h arrived at. subst (λ (a : Arrived). IsServingAt s.plan.now s.rows.now a.number (stream_in a.arrivals) serving) (some_inj one arrived (sym there ∙ at))
    (subst (λ (came : Stream). IsServingAt s.plan.now s.rows.now one.number came serving) c.stream-arrivals.ensures
    (from-station s.plan.now s.rows.now one.number c.stream-arrivals.result.now c.station_of-load.result c.station_of-load.ensures (λ r k a. IsServing r k a serving) h))) c.serving_of.ensures.fit
