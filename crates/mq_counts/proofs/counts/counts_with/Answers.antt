use Rattle.std.proofs.lemmas.Result.{IfOk-weaker}
use Rattle.mq_counts.proofs.counts.counts_with.Goals as goal

pub returns-in-Ok : goal.returns-in-Ok
returns-in-Ok g c = IfOk-weaker c.counts_at-counts.result _ _ (λ counts told. told c.args.nodes.now c.args.rows.now c.requires.visits c.in-Ok.ensures.streams) c.counts_at-counts.ensures
