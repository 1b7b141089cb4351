use Rattle.std.proofs.Common.{refl}
use Rattle.mq_core.specs.declared.model.Kind.TheVariants.{Loss}
use Rattle.mq_stations.proofs.lemmas.Leaves.{asked-each, load-sound}
use Rattle.mq_kinds.proofs.Loads.{load-as, loss-settled, some-places}
use Rattle.mq_kinds.proofs.loss.loss_whole.Goals as goal

pub settled-requires-clause-asked : goal.settled-requires-clause-asked
settled-requires-clause-asked c =
    let load = c.args.load.now in
    asked-each load.rows.now c.args.demand.now load.arrivals.now.job (load-as load.rows.now load.kind.now (Loss c.args.places c.args.demand.now) load.arrivals.now c.requires.kind c.requires.load).told

pub settled-requires-clause-load : goal.settled-requires-clause-load
settled-requires-clause-load c =
    let load = c.args.load.now in
    let here = load-as load.rows.now load.kind.now (Loss c.args.places c.args.demand.now) load.arrivals.now c.requires.kind c.requires.load in
    load-sound load.rows.now (Loss c.args.places c.args.demand.now) c.args.demand.now load.arrivals.now _ here here.told refl

pub settled-requires-clause-places : goal.settled-requires-clause-places
settled-requires-clause-places c =
    let load = c.args.load.now in
    let here = load-as load.rows.now load.kind.now (Loss c.args.places c.args.demand.now) load.arrivals.now c.requires.kind c.requires.load in
    some-places here.columns c.args.places c.args.demand.now here.sound

pub returns : goal.returns
returns c =
    let load = c.args.load.now in
    loss-settled load.rows.now load.kind.now c.args.places c.args.demand.now load.arrivals.now c.in_ok-settled.settled c.requires.kind c.in_ok-settled.ensures.settled
