use Rattle.std.proofs.Common.{◌∙◌, ◌*◌, All, List, drop, subst, sym}
use Rattle.std.specs.List.{flat_map}
use Rattle.mq_core.specs.Told.{AreTold}
use Rattle.mq_core.specs.declared.model.Demand.{Demand}
use Rattle.mq_core.specs.declared.model.Stream.{Stream}
use Rattle.mq_stations.proofs.lemmas.StageFacts.{demands-asked, demands-told}
use Rattle.mq_asked.specs.Demands.{AreAsked}
use Rattle.mq_redo.proofs.Last.{told-last}
use Rattle.mq_redo.proofs.forkjoins.branched_behind.Goals as goal

pub all_asked_of-requires : goal.all_asked_of-requires
all_asked_of-requires g c =
    let from = c.args.first * c.args.blocks.now.block in
    let is = c.stream-behind.ensures ∙ c.in_ok-last.ensures in
    let asked = flat_map (λ (demands : List Demand). demands) c.args.branches.now in
    subst (λ (s : Stream). All (λ demand. AreAsked c.args.rows.now demand s.job) c.in-Ok.asked) (sym is)
    (demands-asked c.args.rows.now c.in-Ok.asked asked (drop from c.args.arrivals.now.job) c.in-Ok.ensures (demands-told c.args.rows.now asked (drop from c.args.arrivals.now.job) (told-last (λ job. AreTold c.args.rows.now asked job) c.args.arrivals.now.job from c.requires.load.told)))

pub branched_last-done-requires-clause-behind : goal.branched_last-done-requires-clause-behind
branched_last-done-requires-clause-behind g c = c.stream-behind.ensures ∙ c.in_ok-last.ensures

pub branched_last-done-requires-clause-asked : goal.branched_last-done-requires-clause-asked
branched_last-done-requires-clause-asked g c = c.in-Ok.ensures

pub branched_last-done-requires-clause-demands : goal.branched_last-done-requires-clause-demands
branched_last-done-requires-clause-demands g c = c.in-Ok-all_asked_of.ensures

pub branched_last-done-requires-clause-begins : goal.branched_last-done-requires-clause-begins
branched_last-done-requires-clause-begins g c = c.in-Ok-branch_begins.ensures

pub returns-clause-steps : goal.returns-clause-steps
returns-clause-steps g c = c.branched_last-done.ensures.steps
