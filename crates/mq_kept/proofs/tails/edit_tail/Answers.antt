use Rattle.std.proofs.Common.{List, ℕ, ◌∙◌}
use Rattle.mq_core.specs.SequenceLaws.{FatesAreInTime, OrdersKeepItems, SequencesGoByFates}
use Rattle.mq_core.specs.Theorems.{IsReadFor}
use Rattle.mq_core.specs.declared.model.Plan.{Plan}
use Rattle.mq_core.specs.declared.model.Rows.{Rows}
use Rattle.mq_engine.specs.CoreLaws.{CoreLaws}
use Rattle.mq_exits.specs.Results.{IsWorkedOut}
use Rattle.mq_exits.specs.declared.working.Ending.TheVariants.{OnTime}
use Rattle.mq_kept.proofs.InTurn.{next-tail, node-laws, old-turn, tail-cause, tail-known}
use Rattle.mq_kept.proofs.LastVisits.{tail-back, tail-fits}
use Rattle.mq_kept.specs.TailSteps.{AreInTurn, IsNextTail}
use Rattle.mq_kept.specs.Tails.{IsTailFor, departures_in}
use Rattle.mq_kept.specs.declared.former.NodeLists.{NodeLists}
use Rattle.mq_kept.proofs.tails.edit_tail.Goals as goal

-- what is kept of the node is in turn, and the visits can stand behind its first ones
ready : CoreLaws → OrdersKeepItems → SequencesGoByFates → FatesAreInTime → (plan : Plan) (v : ℕ) (lists : NodeLists) (from : ℕ) (jobs times departs : List ℕ) → (old : Rows) × IsReadFor plan.net old × IsWorkedOut plan old (record { number = v; ending = OnTime lists.visits lists.streams }) →
    (rows : Rows) × IsTailFor plan rows v lists from jobs times departs → AreInTurn lists (departures_in lists) × IsNextTail from jobs times departs lists
ready core keeps go inTime plan v lists from jobs times departs kept tail =
    let laws = node-laws core keeps go in
    let turn = old-turn laws inTime plan tail.0 v lists from jobs times departs tail.1 kept.0 kept.1 kept.2 in
    (turn, next-tail laws inTime plan tail.0 v lists from jobs times departs tail.1 turn)

pub former_tail-requires-clause-in_turn : goal.former_tail-requires-clause-in_turn
former_tail-requires-clause-in_turn c = (ready c.core_laws.ensures c.orders_keep_items.ensures c.sequences_go_by_fates.ensures c.fates_are_in_time.ensures c.args.plan.now c.args.number c.args.lists.now c.args.from c.args.jobs.now c.args.times.now c.args.departs.now c.requires.kept c.requires.tail).0

pub put_tail-requires-clause-in_turn : goal.put_tail-requires-clause-in_turn
put_tail-requires-clause-in_turn c = (ready c.core_laws.ensures c.orders_keep_items.ensures c.sequences_go_by_fates.ensures c.fates_are_in_time.ensures c.args.plan.now c.args.number c.args.lists.now c.args.from c.args.jobs.now c.args.times.now c.args.departs.now c.requires.kept c.requires.tail).0

pub put_tail-requires-clause-tail : goal.put_tail-requires-clause-tail
put_tail-requires-clause-tail c = (ready c.core_laws.ensures c.orders_keep_items.ensures c.sequences_go_by_fates.ensures c.fates_are_in_time.ensures c.args.plan.now c.args.number c.args.lists.now c.args.from c.args.jobs.now c.args.times.now c.args.departs.now c.requires.kept c.requires.tail).1

pub put_back-requires : goal.put_back-requires
put_back-requires c =
    let turn = (ready c.core_laws.ensures c.orders_keep_items.ensures c.sequences_go_by_fates.ensures c.fates_are_in_time.ensures c.args.plan.now c.args.number c.args.lists.now c.args.from c.args.jobs.now c.args.times.now c.args.departs.now c.requires.kept c.requires.tail).0 in
    let was = c.in_ok-former.ensures in
    tail-fits c.in_ok-former.former c.args.from was.from c.args.lists.now c.put_tail.new.lists turn c.requires.tail.1.within c.put_tail.ensures.first was.job was.arrive was.found was.departs

pub returns-in-Ok-clause-known : goal.returns-in-Ok-clause-known
returns-in-Ok-clause-known c = λ rows tail.
    let laws = node-laws c.core_laws.ensures c.orders_keep_items.ensures c.sequences_go_by_fates.ensures in
    let turn = old-turn laws c.fates_are_in_time.ensures c.args.plan.now rows c.args.number c.args.lists.now c.args.from c.args.jobs.now c.args.times.now c.args.departs.now tail c.requires.kept.0 c.requires.kept.1 c.requires.kept.2 in
    tail-known laws c.fates_are_in_time.ensures c.args.plan.now rows c.args.number c.args.lists.now c.args.from c.args.jobs.now c.args.times.now c.args.departs.now tail c.put_tail.new.lists c.in-Ok.ensures.put turn c.in-Ok.ensures.founds c.in-Ok.ensures.early

pub returns-in-Ok-clause-fits : goal.returns-in-Ok-clause-fits
returns-in-Ok-clause-fits c =
    let turn = (ready c.core_laws.ensures c.orders_keep_items.ensures c.sequences_go_by_fates.ensures c.fates_are_in_time.ensures c.args.plan.now c.args.number c.args.lists.now c.args.from c.args.jobs.now c.args.times.now c.args.departs.now c.requires.kept c.requires.tail).0 in
    let was = c.in_ok-former.ensures in
    tail-fits c.in_ok-former.former c.args.from was.from c.args.lists.now c.put_tail.new.lists turn c.requires.tail.1.within c.put_tail.ensures.first was.job was.arrive was.found was.departs

pub returns-in-Ok-clause-before : goal.returns-in-Ok-clause-before
returns-in-Ok-clause-before c =
    let turn = (ready c.core_laws.ensures c.orders_keep_items.ensures c.sequences_go_by_fates.ensures c.fates_are_in_time.ensures c.args.plan.now c.args.number c.args.lists.now c.args.from c.args.jobs.now c.args.times.now c.args.departs.now c.requires.kept c.requires.tail).0 in
    let was = c.in_ok-former.ensures in
    tail-back c.in_ok-former.former c.args.from was.from c.args.lists.now c.put_tail.new.lists turn c.requires.tail.1.within c.put_tail.ensures.first was.job was.arrive was.found was.departs

pub returns-in-Err-clause-err : goal.returns-in-Err-clause-err
returns-in-Err-clause-err c =
    let turn = (ready c.core_laws.ensures c.orders_keep_items.ensures c.sequences_go_by_fates.ensures c.fates_are_in_time.ensures c.args.plan.now c.args.number c.args.lists.now c.args.from c.args.jobs.now c.args.times.now c.args.departs.now c.requires.kept c.requires.tail).0 in
    let was = c.in_ok-former.ensures in
    c.put_back.ensures ∙ tail-back c.in_ok-former.former c.args.from was.from c.args.lists.now c.put_tail.new.lists turn c.requires.tail.1.within c.put_tail.ensures.first was.job was.arrive was.found was.departs

pub returns-in-Err-clause-cause : goal.returns-in-Err-clause-cause
returns-in-Err-clause-cause c = λ rows tail.
    let laws = node-laws c.core_laws.ensures c.orders_keep_items.ensures c.sequences_go_by_fates.ensures in
    tail-cause laws c.fates_are_in_time.ensures c.args.plan.now rows c.args.number c.args.lists.now c.args.from c.args.jobs.now c.args.times.now c.args.departs.now tail c.in-Err.fault c.in-Err.ensures.cause
