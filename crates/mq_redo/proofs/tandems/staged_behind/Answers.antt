use Rattle.std.proofs.Common.{◌∙◌, ◌*◌, All, drop, map, sym, subst}
use Rattle.mq_core.specs.Told.{AreTold}
use Rattle.mq_core.specs.declared.model.Stage.{Stage}
use Rattle.mq_core.specs.declared.model.Stream.{Stream}
use Rattle.mq_stations.proofs.lemmas.StageFacts.{demands-asked, demands-told}
use Rattle.mq_asked.specs.Demands.{AreAsked}
use Rattle.mq_redo.proofs.Last.{told-last}
use Rattle.mq_redo.proofs.tandems.staged_behind.Goals as goal

pub all_asked_of-requires : goal.all_asked_of-requires
all_asked_of-requires g c =
    let from = c.args.first * c.args.blocks.now.block in
    let is = c.stream-behind.ensures ∙ c.in_ok-last.ensures in
    let stages = c.args.stages.now in
    let asked = map (λ (stage : Stage). stage.demand) stages in
    subst (λ (s : Stream). All (λ demand. AreAsked c.args.rows.now demand s.job) c.in-Ok.asked) (sym is)
    (demands-asked c.args.rows.now c.in-Ok.asked asked (drop from c.args.arrivals.now.job) c.in-Ok.ensures (demands-told c.args.rows.now asked (drop from c.args.arrivals.now.job) (told-last (λ job. AreTold c.args.rows.now asked job) c.args.arrivals.now.job from c.requires.load.told)))

pub staged_last-done-requires-clause-behind : goal.staged_last-done-requires-clause-behind
staged_last-done-requires-clause-behind g c = c.stream-behind.ensures ∙ c.in_ok-last.ensures

pub staged_last-done-requires-clause-asked : goal.staged_last-done-requires-clause-asked
staged_last-done-requires-clause-asked g c = c.in-Ok.ensures

pub staged_last-done-requires-clause-demands : goal.staged_last-done-requires-clause-demands
staged_last-done-requires-clause-demands g c = c.in-Ok-all_asked_of.ensures

pub staged_last-done-requires-clause-places : goal.staged_last-done-requires-clause-places
staged_last-done-requires-clause-places g c = c.in-Ok-stage_places.ensures
