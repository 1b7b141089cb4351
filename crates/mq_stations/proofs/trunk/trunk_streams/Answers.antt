use Rattle.std.proofs.Common.{map}
use Rattle.std.proofs.lemmas.Result.{IfOk-weaker}
use Rattle.mq_core.specs.Handling.{demand_of_job}
use Rattle.mq_stations.proofs.TrunkFates.{leaves-by, trunk-settled}
use Rattle.mq_stations.proofs.trunk.trunk_streams.Goals as goal

pub trunk_parts-requires : goal.trunk_parts-requires
trunk_parts-requires c =
    let r = c.requires in
    let arrivals = c.args.arrivals.now in
    (r.1, map (demand_of_job r.0 r.2) arrivals.job, trunk-settled r.0 r.1 r.2 arrivals c.args.settled.now r.3 r.4)

pub returns : goal.returns
returns c =
    let arrivals = c.args.arrivals.now in
    IfOk-weaker c.both.result _ _
    (λ streams e rows servers demand stream s. leaves-by rows servers demand arrivals c.in_ok-parts.parts streams (c.in_ok-parts.ensures servers (map (demand_of_job rows demand) arrivals.job) (trunk-settled rows servers demand arrivals c.args.settled.now stream s)) e)
    c.both.ensures
