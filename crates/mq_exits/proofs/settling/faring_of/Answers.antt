use Rattle.std.proofs.Common.{length, ap, subst, sym, ◌∙◌}
use Rattle.std.specs.Option.{option_map}
use Rattle.mq_core.specs.Came.{came_in}
use Rattle.mq_core.specs.SequenceLaws.{FatesInTime}
use Rattle.mq_stations.proofs.lemmas.Leaves.{once-leaves}
use Rattle.mq_stations.specs.Late.{late_told}
use Rattle.mq_exits.proofs.Leavings.{late-by}
use Rattle.mq_exits.proofs.settling.faring_of.Goals as goal

pub found-requires-clause-even : goal.found-requires-clause-even
found-requires-clause-even c =
    let same = c.each-fates.ensures ∙ c.requires.leave in
    ap length same ∙ (c.fates_are_in_time.ensures c.args.rows.now c.args.kind.now (came_in c.args.arrivals.now) (once-leaves c.args.kind.now c.requires.once) c.requires.load.ordered.ordered.even).even

pub found-requires-clause-fate : goal.found-requires-clause-fate
found-requires-clause-fate c =
    let same = c.each-fates.ensures ∙ c.requires.leave in
    (subst (FatesInTime c.args.arrivals.now.time) (sym same) (c.fates_are_in_time.ensures c.args.rows.now c.args.kind.now (came_in c.args.arrivals.now) (once-leaves c.args.kind.now c.requires.once) c.requires.load.ordered.ordered.even)).each

pub returns-in-Ok : goal.returns-in-Ok
returns-in-Ok c = (
  c.each-fates.ensures ∙ c.requires.leave,
  late-by c.args.net.now.bound c.args.number _ _ _ (sym c.requires.leave) (c.first_late.ensures ∙ ap (option_map late_told) c.in-None.is),
  c.in-Ok.ensures,
)
