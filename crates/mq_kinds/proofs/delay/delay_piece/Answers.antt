use Rattle.std.proofs.Common.{◌∙◌, subst, sym}
use Rattle.mq_core.specs.declared.model.Kind.{Kind}
use Rattle.mq_core.specs.declared.model.Kind.TheVariants.{Delay}
use Rattle.mq_stations.specs.Leaving.{AreDepartures}
use Rattle.mq_stations.proofs.lemmas.Leaves.{asked-each, delay-departs, load-sound}
use Rattle.mq_kinds.proofs.Loads.{load-as}
use Rattle.mq_kinds.proofs.delay.delay_piece.Goals as goal

pub asked_of-requires : goal.asked_of-requires
asked_of-requires c =
    let load = c.args.load.now in
    asked-each load.rows.now c.args.demand.now load.arrivals.now.job (load-as load.rows.now load.kind.now (Delay c.args.demand.now) load.arrivals.now c.requires.is c.requires.load).told

pub delay_departures-requires : goal.delay_departures-requires
delay_departures-requires c =
    let load = c.args.load.now in
    let here = load-as load.rows.now load.kind.now (Delay c.args.demand.now) load.arrivals.now c.requires.is c.requires.load in
    load-sound load.rows.now (Delay c.args.demand.now) c.args.demand.now load.arrivals.now _ here here.told (c.list.ensures ∙ c.in_ok-asked.ensures)

pub returns : goal.returns
returns c =
    let load = c.args.load.now in
    subst (λ (k : Kind). AreDepartures load.rows.now k load.arrivals.now c.in_ok-departs.departs) (sym c.requires.is)
    (delay-departs load.rows.now c.args.demand.now load.arrivals.now _ c.in_ok-departs.departs (c.list.ensures ∙ c.in_ok-asked.ensures) c.in_ok-departs.ensures)
