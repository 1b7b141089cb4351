use Rattle.std.proofs.Common.{subst}
use Rattle.mq_kept.specs.Formers.{AreNodes}
use Rattle.mq_kept.proofs.Behind.{nothing-before}
use Rattle.mq_kept.proofs.kept.begun.Goals as goal

pub run_again-requires-clause-before : goal.run_again-requires-clause-before
run_again-requires-clause-before g c κs within =
    nothing-before c.args.plan.now c.args.block c.in-Ok.nodes (subst (λ n. AreNodes n c.in-Ok.nodes) c.len-count.ensures c.in-Ok.ensures.count) c.in-Ok.ensures.nothing
