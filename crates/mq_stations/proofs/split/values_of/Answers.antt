use Rattle.std.proofs.Common.{map, ◌∙◌}
use Rattle.std.proofs.lemmas.Result.{IfOk-weaker}
use Rattle.mq_stations.proofs.split.values_of.Goals as goal

pub demands_in-requires : goal.demands_in-requires
demands_in-requires c = λ k job e. c.looked_at.ensures.told c.args.rows.now job (c.requires k job e)

pub returns : goal.returns
returns c = IfOk-weaker c.demands_in.result _ _ (λ values e. e ∙ (λ i. map (λ job. c.looked_at.ensures.value c.args.rows.now job i) c.args.jobs.now)) c.demands_in.ensures
