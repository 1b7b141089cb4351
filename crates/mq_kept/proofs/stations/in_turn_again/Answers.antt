use Rattle.std.proofs.Common.{sym, subst, arith}
use Rattle.mq_kinds.specs.Lefts.{LeaveInTurn}
use Rattle.mq_redo.specs.Kept.{coming_as}
use Rattle.mq_kept.proofs.Stays.{all-kept, first-times, leave-in-turn}
use Rattle.mq_kept.proofs.Within.{staying-within}
use Rattle.mq_kept.proofs.stations.in_turn_again.Goals as goal

pub overflow_mul-stays : goal.overflow_mul-stays
overflow_mul-stays g c =
    let load = c.args.load.now in
    let loaded = c.requires.loaded in
    let h = c.requires.stays loaded.node loaded.there in
    let inside = staying-within c.alike_is_first.ensures loaded.node.kind h.0 (coming_as load.rows.now load.arrivals.now) load.block c.args.stays.now h.1 in
    let even = loaded.load.ordered.ordered.even in
    let few = loaded.load.few in
    omega arith

pub all_departures-requires : goal.all_departures-requires
all_departures-requires g c =
    let load = c.args.load.now in
    let loaded = c.requires.loaded in
    first-times c.alike_is_first.ensures load.rows.now load.arrivals.now loaded.node.kind (c.requires.tail loaded.node loaded.there) load.block c.args.stays.now (c.requires.stays loaded.node loaded.there)

pub returns-in-Ok-clause-left : goal.returns-in-Ok-clause-left
returns-in-Ok-clause-left g c = λ node there.
    let load = c.args.load.now in
    subst (LeaveInTurn load.rows.now node.kind load.arrivals.now) (sym c.from_vec.ensures)
    (leave-in-turn c.alike_is_first.ensures load.rows.now load.arrivals.now node.kind (c.requires.tail node there) load.block c.args.stays.now (c.requires.stays node there) c.in_ok-times.field-0 (c.in_ok-times.ensures.done node there) c.in-Ok.times.items c.in-Ok.ensures)

pub returns-in-Ok-clause-checkpoints : goal.returns-in-Ok-clause-checkpoints
returns-in-Ok-clause-checkpoints g c = λ node there.
    let load = c.args.load.now in
    all-kept c.alike_is_first.ensures load.rows.now load.arrivals.now node.kind (c.requires.tail node there) load.block c.args.stays.now (c.requires.stays node there) c.in_ok-times.field-0 (c.in_ok-times.ensures.done node there)
