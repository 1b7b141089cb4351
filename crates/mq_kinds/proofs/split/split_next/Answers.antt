use Rattle.std.proofs.Common.{map, refl, subst, sym}
use Rattle.mq_core.specs.Kinds.Split.{route_value}
use Rattle.mq_core.specs.declared.model.Kind.TheVariants.{Split}
use Rattle.mq_crew.specs.Crew.{AreAll}
use Rattle.mq_kinds.specs.Servers.{AreSplitParts}
use Rattle.mq_stations.proofs.lemmas.Leaves.{routed-outputs}
use Rattle.mq_kinds.specs.Pieces.{streams_in}
use Rattle.mq_kinds.proofs.Forms.{contents-are}
use Rattle.mq_kinds.proofs.Loads.{blocks-split, load-as, routes}
use Rattle.mq_kinds.proofs.split.split_next.Goals as goal

pub split_joined-joined-requires-clause-route : goal.split_joined-joined-requires-clause-route
split_joined-joined-requires-clause-route c =
    let load = c.args.load.now in
    let route = c.args.split.now.route.now in
    routed-outputs load.rows.now route load.arrivals.now (load-as load.rows.now load.kind.now (Split route) load.arrivals.now c.requires.fit.is c.requires.fit.load)

pub split_joined-joined-requires-clause-made : goal.split_joined-joined-requires-clause-made
split_joined-joined-requires-clause-made c =
    let load = c.args.load.now in
    let route = c.args.split.now.route.now in
    let blocks = c.args.split.now.blocks in
    let values = map (route_value load.rows.now route) load.arrivals.now.job in
    let parts = subst (AreAll (AreSplitParts route load.arrivals.now values blocks) blocks.blocks) (sym c.in_ok-parts.ensures) (contents-are streams_in (AreSplitParts route load.arrivals.now values blocks) blocks.blocks c.args.made c.requires.made) in
    (load.arrivals.now, values, blocks, blocks-split load.rows.now load.kind.now route load.arrivals.now blocks c.in_ok-parts.parts c.requires.fit.load c.requires.fit.cut.0 parts)

pub returns : goal.returns
returns c =
    let load = c.args.load.now in
    let route = c.args.split.now.route.now in
    let blocks = c.args.split.now.blocks in
    let values = map (route_value load.rows.now route) load.arrivals.now.job in
    let parts = subst (AreAll (AreSplitParts route load.arrivals.now values blocks) blocks.blocks) (sym c.in_ok-parts.ensures) (contents-are streams_in (AreSplitParts route load.arrivals.now values blocks) blocks.blocks c.args.made c.requires.made) in
    let whole = blocks-split load.rows.now load.kind.now route load.arrivals.now blocks c.in_ok-parts.parts c.requires.fit.load c.requires.fit.cut.0 parts in
    routes load.rows.now load.kind.now route load.arrivals.now values _ c.requires.fit.is c.requires.fit.load refl (c.in_ok-joined.ensures load.arrivals.now values blocks whole)
