use Rattle.std.proofs.Common.{◌∙◌}
use Rattle.mq_core.specs.declared.model.Kind.TheVariants.{Server}
use Rattle.mq_stations.proofs.lemmas.Leaves.{load-sound, server-served}
use Rattle.mq_kinds.proofs.Loads.{in-turn, load-as}
use Rattle.mq_kinds.proofs.server.server_whole.Goals as goal

pub departures-requires : goal.departures-requires
departures-requires c =
    let load = c.args.load.now in
    let s = c.in_ok-asked.ensures in
    let here = load-as load.rows.now load.kind.now (Server s.demand) load.arrivals.now s.is s.load in
    load-sound load.rows.now (Server s.demand) s.demand load.arrivals.now _ here here.told (c.list.ensures ∙ s.asked)

pub returns : goal.returns
returns c =
    let load = c.args.load.now in
    let s = c.in_ok-asked.ensures in
    in-turn load.rows.now load.kind.now (Server s.demand) load.arrivals.now c.in_ok-departs.departs s.is (server-served load.rows.now s.demand load.arrivals.now _ c.in_ok-departs.departs (c.list.ensures ∙ s.asked) c.in_ok-departs.ensures)
