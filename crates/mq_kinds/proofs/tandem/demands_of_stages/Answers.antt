use Rattle.std.proofs.Common.{ap, ◌∙◌, All, map, subst, sym}
use Rattle.std.proofs.lemmas.Result.{IfOk-weaker}
use Rattle.mq_core.specs.Handling.{demand_of_job}
use Rattle.mq_asked.specs.Demands.{AreAsked}
use Rattle.mq_kinds.proofs.tandem.demands_of_stages.Goals as goal

pub all_asked_of-requires : goal.all_asked_of-requires
all_asked_of-requires c = subst (All (λ demand. AreAsked c.args.rows.now demand c.args.jobs.now)) (sym c.in_ok-asked.ensures) c.requires

pub returns : goal.returns
returns c = IfOk-weaker c.all_asked_of.result _ _ (λ demands e. e ∙ ap (map (λ demand. map (demand_of_job c.args.rows.now demand) c.args.jobs.now)) c.in_ok-asked.ensures) c.all_asked_of.ensures
