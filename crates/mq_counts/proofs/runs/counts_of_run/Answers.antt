use Rattle.std.proofs.Common.{List, arith, subst}
use Rattle.mq_core.proofs.lemmas.Plans.{within-limits}
use Rattle.mq_core.specs.declared.model.Node.{Node}
use Rattle.mq_counts.proofs.Endings.{node-counts}
use Rattle.mq_counts.specs.Counts.{AreCountsOf}
use Rattle.mq_counts.proofs.runs.counts_of_run.Goals as goal

pub counts_of-requires-clause-few : goal.counts_of-requires-clause-few
counts_of-requires-clause-few g c κs within =
    let few = (within-limits c.args.plan.now).0 in
    let len = c.in_ok-all.ensures.len in
    omega arith

pub counted-requires-clause-nodes : goal.counted-requires-clause-nodes
counted-requires-clause-nodes g c = (
  c.args.form,
  node-counts c.args.plan.now c.args.rows.now c.args.form c.in_ok-all.all c.in-Ok.counts c.in_ok-all.ensures
      (subst (λ (nodes : List Node). AreCountsOf nodes c.args.rows.now c.args.form c.in_ok-all.all c.in-Ok.counts) c.as_slice-nodes.ensures c.in-Ok.ensures),
)

pub returns-in-Ok : goal.returns-in-Ok
returns-in-Ok g c =
    c.counted.ensures c.args.form
    (node-counts c.args.plan.now c.args.rows.now c.args.form c.in_ok-all.all c.in-Ok.counts c.in_ok-all.ensures
    (subst (λ (nodes : List Node). AreCountsOf nodes c.args.rows.now c.args.form c.in_ok-all.all c.in-Ok.counts) c.as_slice-nodes.ensures c.in-Ok.ensures))
