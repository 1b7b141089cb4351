use Rattle.std.proofs.Common.{◌∙◌, sym}
use Rattle.mq_stations.proofs.lemmas.Leaves.{departs-even}
use Rattle.mq_kinds.proofs.InOrder.{in-turn-risen}
use Rattle.mq_kinds.proofs.delay.delay_left.Goals as goal

pub returns-then-never_fall : goal.returns-then-never_fall
returns-then-never_fall g c =
    let load = c.args.load.now in
    in-turn-risen c.fates_are_in_time.ensures load.rows.now load.kind.now load.arrivals.now c.args.departs c.requires.load c.requires.departs c.requires.overtake (c.never_fall.ensures c.if-never_fall.true)

pub by_departure-requires-clause-even : goal.by_departure-requires-clause-even
by_departure-requires-clause-even g c _ _ =
    let load = c.args.load.now in
    c.requires.load.ordered.ordered.even ∙ sym (departs-even c.fates_are_in_time.ensures load.rows.now load.kind.now load.arrivals.now c.args.departs c.requires.load c.requires.departs)

pub returns-in-Ok : goal.returns-in-Ok
returns-in-Ok g c = record { depart = c.requires.departs; overtake = c.requires.overtake; ordered = c.in-Ok.ensures.stream; items = c.in-Ok.ensures.items; times = c.in-Ok.ensures.times }
