use Rattle.mq_stations.proofs.lemmas.Late.{departs_inj, quiet, late-next, late-here}
use Rattle.std.proofs.Common.{◌≡◌, sym, ap, ◌∙◌, Some, arith}
use Rattle.mq_core.specs.declared.model.Fate.TheVariants.{Departs}
use Rattle.mq_engine.proofs.gathering.late_among.Goals as goal
use Rattle.mq_engine.proofs.gathering.late_among.Goals.{in-Departs+else-time-bound, in_default}

pub returns-then-time-bound : goal.returns-then-time-bound
returns-then-time-bound c = late-here c.args.bound c.args.node c.loop-position.position c.in-Departs.time c.args.fates.now _ (c.at.ensures ∙ ap Some c.in-Departs.is) c.if-time-bound.true c.loop-position.invariant

pub loop-position-preserved : goal.loop-position-preserved
loop-position-preserved c =
    elim c.match-at.branch [
      | in-Departs+else-time-bound w ↦ late-next c.args.bound c.args.node c.loop-position.position c.at.result c.args.fates.now _ c.at.ensures (quiet c.args.bound c.args.node c.loop-position.position c.at.result (λ time e. let same : Departs w.in-Departs.time ≡ Departs time = sym w.in-Departs.is ∙ e in let l = departs_inj _ _ same in omega arith)) c.loop-position.invariant
      | in_default w ↦ late-next c.args.bound c.args.node c.loop-position.position c.at.result c.args.fates.now _ c.at.ensures (quiet c.args.bound c.args.node c.loop-position.position c.at.result (λ time e. absurd (w.in_default.not-Departs time e))) c.loop-position.invariant
    ]
