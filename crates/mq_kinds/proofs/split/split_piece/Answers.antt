use Rattle.mq_core.specs.declared.model.Kind.TheVariants.{Split}
use Rattle.mq_stations.proofs.lemmas.Leaves.{routed-outputs}
use Rattle.mq_kinds.proofs.Loads.{load-as}
use Rattle.mq_kinds.proofs.split.split_piece.Goals as goal

pub split_part-requires-clause-route : goal.split_part-requires-clause-route
split_part-requires-clause-route c =
    let load = c.args.load.now in
    let route = c.args.split.now.route.now in
    routed-outputs load.rows.now route load.arrivals.now (load-as load.rows.now load.kind.now (Split route) load.arrivals.now c.requires.fit.is c.requires.fit.load)

pub split_part-requires-clause-told : goal.split_part-requires-clause-told
split_part-requires-clause-told c =
    let load = c.args.load.now in
    let route = c.args.split.now.route.now in
    (load-as load.rows.now load.kind.now (Split route) load.arrivals.now c.requires.fit.is c.requires.fit.load).told
