use Rattle.std.proofs.Common.{◌≤◌, ◌++◌, ◌∷◌, [], ℕ, List, All, ap, ◌∙◌, length, map, arith}
use Rattle.mq_base.proofs.lemmas.Lists.{map-all}
use Rattle.mq_base.proofs.lemmas.Each.{Each-get}
use Rattle.mq_core.specs.Handling.{demand_of_job}
use Rattle.mq_core.specs.declared.model.Demand.{Demand}
use Rattle.mq_asked.specs.Demands.{AreAsked}
use Rattle.mq_asked.proofs.lemmas.Lists.{map-more}
use Rattle.mq_asked.proofs.asked.branches_asked_of.Goals as goal

pub all_asked_by-requires-clause-asked : goal.all_asked_by-requires-clause-asked
all_asked_by-requires-clause-asked c =
    Each-get (λ demands. All (λ demand. AreAsked c.args.rows.now demand c.args.jobs.now) demands) c.args.branches.now c.loop-at.at c.get.result.now c.requires c.get.ensures

pub loop-at-preserved : goal.loop-at-preserved
loop-at-preserved c =
    map-more (λ (demands : List Demand). map (λ demand. map (demand_of_job c.args.rows.now demand) c.args.jobs.now) demands) c.args.branches.now c.loop-at.at c.get.result.now _ _ c.get.ensures
    (c.in-Ok-push.ensures.ok ∙ ap (λ (lists : List (List ℕ)). c.loop-at.all ++ lists ∷ []) c.in-Ok.ensures) c.loop-at.invariant

pub returns : goal.returns
returns c =
    let ended : length c.args.branches.now ≤ c.loop-at.at = omega arith in
    map-all (λ (demands : List Demand). map (λ demand. map (demand_of_job c.args.rows.now demand) c.args.jobs.now) demands) c.args.branches.now c.loop-at.at _ ended c.loop-at.invariant
