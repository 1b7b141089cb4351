use Rattle.std.proofs.Common.{List, ℕ, map, ap, ◌∙◌, subst, sym}
use Rattle.mq_core.specs.Kinds.Split.{route_value}
use Rattle.mq_core.specs.declared.model.Kind.TheVariants.{Split}
use Rattle.mq_stations.specs.Leaving.{AreRouted}
use Rattle.mq_stations.proofs.lemmas.Leaves.{routed-outputs}
use Rattle.mq_kinds.proofs.Loads.{load-as, routes}
use Rattle.mq_kinds.proofs.split.split_whole.Goals as goal

pub values_of-requires : goal.values_of-requires
values_of-requires c =
    let load = c.args.load.now in
    let here = load-as load.rows.now load.kind.now (Split c.args.route.now) load.arrivals.now c.requires.kind c.requires.load in
    subst (λ (jobs : List ℕ). AreRouted load.rows.now c.args.route.now jobs) (sym c.as_slice.ensures) here.told

pub split-streams-requires-clause-route : goal.split-streams-requires-clause-route
split-streams-requires-clause-route c =
    let load = c.args.load.now in
    routed-outputs load.rows.now c.args.route.now load.arrivals.now (load-as load.rows.now load.kind.now (Split c.args.route.now) load.arrivals.now c.requires.kind c.requires.load)

pub returns : goal.returns
returns c =
    let load = c.args.load.now in
    routes load.rows.now load.kind.now c.args.route.now load.arrivals.now _ _ c.requires.kind c.requires.load (c.in_ok-values.ensures ∙ ap (map (route_value load.rows.now c.args.route.now)) c.as_slice.ensures) c.in_ok-streams.ensures
