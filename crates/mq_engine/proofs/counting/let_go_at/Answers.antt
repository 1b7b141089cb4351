use Rattle.std.proofs.Common.{List, arith, subst}
use Rattle.mq_engine.specs.Counting.{IsUnread}
use Rattle.mq_engine.specs.declared.progress.Stand.{Stand}
use Rattle.mq_engine.proofs.Kept.{gone-keeps}
use Rattle.mq_engine.proofs.counting.let_go_at.Goals as goal

pub returns-clause-counting : goal.returns-clause-counting
returns-clause-counting c = λ rows form counting.
    gone-keeps c.args.plan.now rows form _ _ _ _ c.args.node (omega arith) (subst (λ (stands : List Stand). IsUnread c.args.plan.now.net.nodes stands c.args.node) c.deref.ensures.value (c.is_awaited.ensures c.if-is_awaited.false)) c.empty.ensures counting
