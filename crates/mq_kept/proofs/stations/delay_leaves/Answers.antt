use Rattle.std.proofs.Common.{◌≡◌}
use Rattle.mq_core.specs.Sequences.{stream_in_order}
use Rattle.mq_core.specs.Streams.{sorted}
use Rattle.mq_core.specs.declared.model.Kind.{Kind}
use Rattle.mq_core.specs.declared.model.Rows.{Rows}
use Rattle.mq_core.specs.declared.model.Stream.{Stream}
use Rattle.std.proofs.lemmas.Result.{IfOk-weaker}
use Rattle.mq_exits.proofs.Stations.{from-station, to-station}
use Rattle.mq_kinds.specs.Lefts.{IsLeft}
use Rattle.mq_stations.specs.Leaving.{AreDepartures, IsLoad}
use Rattle.mq_kept.proofs.Loading.{loaded-at}
use Rattle.mq_kept.proofs.stations.delay_leaves.Goals as goal

pub delay_left-requires-clause-load : goal.delay_left-requires-clause-load
delay_left-requires-clause-load g c _ _ =
    let load = c.args.load.now in
    to-station load.plan.now load.rows.now load.number load.arrivals.now _ c.station_of-station.ensures IsLoad (loaded-at load.plan.now load.rows.now load.number load.arrivals.now c.requires.loaded)

pub delay_left-requires-clause-overtake : goal.delay_left-requires-clause-overtake
delay_left-requires-clause-overtake g c _ _ =
    let load = c.args.load.now in
    to-station load.plan.now load.rows.now load.number load.arrivals.now _ c.station_of-station.ensures (λ (rows : Rows) (kind : Kind) (arrivals : Stream). (stream : Stream) → stream_in_order kind stream ≡ sorted stream) c.requires.overtake

pub delay_left-requires-clause-departs : goal.delay_left-requires-clause-departs
delay_left-requires-clause-departs g c _ _ =
    let load = c.args.load.now in
    to-station load.plan.now load.rows.now load.number load.arrivals.now _ c.station_of-station.ensures (λ (rows : Rows) (kind : Kind) (arrivals : Stream). AreDepartures rows kind arrivals c.args.departs) c.requires.departs

pub returns : goal.returns
returns g c =
    let load = c.args.load.now in
    IfOk-weaker c.delay_left.result _ _ (λ left h. from-station load.plan.now load.rows.now load.number load.arrivals.now _ c.station_of-station.ensures (λ (rows : Rows) (kind : Kind) (arrivals : Stream). IsLeft rows kind arrivals left) h) c.delay_left.ensures
