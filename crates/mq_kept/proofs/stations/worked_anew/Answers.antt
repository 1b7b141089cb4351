use Rattle.mq_core.specs.declared.model.Kind.{Kind}
use Rattle.mq_core.specs.declared.model.Rows.{Rows}
use Rattle.mq_core.specs.declared.model.Stream.{Stream}
use Rattle.mq_exits.proofs.Stations.{from-station, to-station}
use Rattle.mq_kinds.specs.Lefts.{IsLeft}
use Rattle.mq_kinds.specs.Table.{IsWhole}
use Rattle.mq_stations.specs.Leaving.{IsLoad}
use Rattle.mq_kept.proofs.Loading.{loaded-at}
use Rattle.mq_kept.proofs.stations.worked_anew.Goals as goal

pub station_whole-requires-clause-load : goal.station_whole-requires-clause-load
station_whole-requires-clause-load c =
    let load = c.args.load.now in
    to-station load.plan.now load.rows.now load.number load.arrivals.now _ c.station_of-station.ensures IsLoad (loaded-at load.plan.now load.rows.now load.number load.arrivals.now c.requires.loaded)

pub station_whole-requires-clause-kind : goal.station_whole-requires-clause-kind
station_whole-requires-clause-kind c =
    let load = c.args.load.now in
    to-station load.plan.now load.rows.now load.number load.arrivals.now _ c.station_of-station.ensures (λ (rows : Rows) (kind : Kind) (arrivals : Stream). IsWhole kind) c.requires.whole

pub returns : goal.returns
returns c =
    let load = c.args.load.now in
    from-station load.plan.now load.rows.now load.number load.arrivals.now _ c.station_of-station.ensures (λ (rows : Rows) (kind : Kind) (arrivals : Stream). IsLeft rows kind arrivals c.in_ok-left.left) c.in_ok-left.ensures
