use Rattle.std.proofs.Common.{ap, length, map, sym, subst, ◌∙◌}
use Rattle.std.specs.Option.{option_map}
use Rattle.mq_core.specs.declared.model.Fate.TheVariants.{Departs}
use Rattle.mq_core.specs.declared.model.Stream.{Stream}
use Rattle.mq_merge.specs.Borrowed.{stream_in}
use Rattle.mq_stats.specs.Ahead.{IsAhead}
use Rattle.mq_stations.specs.Late.{late_told}
use Rattle.mq_stations.specs.Scans.{AreFewBlocks}
use Rattle.mq_stations.proofs.lemmas.Leaves.{departs-even}
use Rattle.mq_exits.proofs.DelayOrder.{departs-few, is-overtaken}
use Rattle.mq_exits.proofs.Leavings.{late-by}
use Rattle.mq_exits.proofs.Turning.{ends-late}
use Rattle.mq_exits.proofs.overtaking.overtaken_of.Goals as goal

pub first_late_overtaken-requires-clause-few : goal.first_late_overtaken-requires-clause-few
first_late_overtaken-requires-clause-few g c =
    let held = c.args.held.now in
    let loaded = c.requires.ready.1 in
    departs-few c.fates_are_in_time.ensures held.rows.now loaded.node.kind (stream_in held.arrivals) c.args.departs loaded.load (c.requires.left loaded.node loaded.there).depart

pub first_late_overtaken-requires-clause-leaving : goal.first_late_overtaken-requires-clause-leaving
first_late_overtaken-requires-clause-leaving g c =
    let loaded = c.requires.ready.1 in
    (c.requires.left loaded.node loaded.there).times

pub ahead_of_departures-requires-clause-even : goal.ahead_of_departures-requires-clause-even
ahead_of_departures-requires-clause-even g c =
    let held = c.args.held.now in
    let loaded = c.requires.ready.1 in
    departs-even c.fates_are_in_time.ensures held.rows.now loaded.node.kind (stream_in held.arrivals) c.args.departs loaded.load (c.requires.left loaded.node loaded.there).depart
    ∙ ap (λ (s : Stream). length s.time) (sym c.stream-arrivals.ensures)

pub returns-in-Some : goal.returns-in-Some
returns-in-Some g c keep =
    let held = c.args.held.now in
    ends-late c.node_laws.ensures held c.requires.ready c.in-Some.past (λ node there. late-by held.plan.now.net.bound held.number _ _ _ (c.requires.left node there).depart.fates (c.first_late_overtaken.ensures ∙ ap (option_map late_told) c.in-Some.is)) keep

pub returns-in-Ok : goal.returns-in-Ok
returns-in-Ok g c keep =
    let held = c.args.held.now in
    let same = c.stream-arrivals.ensures in
    is-overtaken c.node_laws.ensures.go c.fates_are_in_time.ensures held.plan.now held.rows.now held.number (stream_in held.arrivals) c.args.departs c.args.leaving c.in-Ok.ahead c.visit_blocks.result
    c.requires.ready.1 c.requires.left (c.first_late_overtaken.ensures ∙ ap (option_map late_told) c.in-None.is) (subst (λ (s : Stream). IsAhead s.time (map (λ time. Departs time) c.args.departs) c.in-Ok.ahead) same c.in-Ok.ensures) (subst (λ (s : Stream). AreFewBlocks (length s.time) 16384 c.visit_blocks.result) same c.visit_blocks.ensures)
