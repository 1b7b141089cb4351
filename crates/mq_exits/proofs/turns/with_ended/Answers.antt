use Rattle.std.proofs.Common.{subst, sym}
use Rattle.std.specs.List.{AllByRecursion}
use Rattle.mq_exits.proofs.Making.{made-more}
use Rattle.mq_exits.proofs.OfWave.{IsEndIn, IsGivenIn, Keeps}
use Rattle.mq_exits.proofs.turns.with_ended.Goals as goal

pub loop-node_result-preserved : goal.loop-node_result-preserved
loop-node_result-preserved c =
    made-more (λ node_result. Unit {0}) (λ (k : Keeps). IsEndIn k.1) IsGivenIn _ _ _ _ _ _ _ _ c.loop-node_result.invariant c.in-Some.ensures.items (λ k h. h) c.in_default-push.ensures.ok

pub returns-clause-given : goal.returns-clause-given
returns-clause-given c keep plan rows ready h r = (c.loop-node_result.invariant.of (keep, (plan, rows, ready)) (h, subst (AllByRecursion (IsEndIn (plan, rows, ready))) (sym c.into_vec-results.ensures) r)).1
