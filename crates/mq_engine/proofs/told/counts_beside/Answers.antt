use Rattle.std.proofs.Common.{List, map, subst}
use Rattle.std.proofs.lemmas.Result.{IfOk-weaker}
use Rattle.mq_core.specs.declared.model.Node.{Node}
use Rattle.mq_counts.specs.Counts.{AreCountsOf}
use Rattle.mq_exits.specs.Turns.{result_given}
use Rattle.mq_engine.proofs.Numbers.{told-all}
use Rattle.mq_engine.proofs.told.counts_beside.Goals as goal

pub returns : goal.returns
returns g c =
    IfOk-weaker c.counts_of-counts.result _ _
    (λ counts are. told-all c.args.plan.now c.args.rows.now c.args.form (map result_given c.args.given.now) c.in_ok-all.all counts c.requires.known c.in_ok-all.ensures
    (subst (λ (nodes : List Node). AreCountsOf nodes c.args.rows.now c.args.form c.in_ok-all.all counts) c.as_slice-nodes.ensures are)) c.counts_of-counts.ensures
