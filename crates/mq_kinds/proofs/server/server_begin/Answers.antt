use Rattle.std.proofs.lemmas.Result.{IfOk-weaker}
use Rattle.mq_stations.proofs.lemmas.Leaves.{asked-each}
use Rattle.mq_kinds.proofs.Loads.{load-as}
use Rattle.mq_kinds.proofs.server.server_begin.Goals as goal

pub asked_of-requires : goal.asked_of-requires
asked_of-requires c =
    let load = c.args.load.now in
    asked-each load.rows.now c.args.demand.now load.arrivals.now.job (load-as load.rows.now load.kind.now _ load.arrivals.now c.requires.kind c.requires.load).told

pub returns : goal.returns
returns c = IfOk-weaker c.asked_of.result _ _ (λ asked e. record { demand = c.args.demand.now; is = c.requires.kind; load = c.requires.load; asked = e }) c.asked_of.ensures
