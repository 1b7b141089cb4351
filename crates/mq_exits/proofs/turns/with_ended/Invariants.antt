use Rattle.std.proofs.Common.{◌+◌, length}
use Rattle.std.specs.List.{AllByRecursion}
use Rattle.mq_exits.proofs.Making.{AreMade}
use Rattle.mq_exits.proofs.OfWave.{IsEndIn, IsGivenIn}
use Rattle.mq_exits.proofs.turns.with_ended.Given as goal

abbrev pub invariant-loop-node_result : goal.invariant-loop-node_result
invariant-loop-node_result l = AreMade (λ node_result. Unit {0}) (λ k. IsEndIn k.1) IsGivenIn (length l.initial.all + length l.initial.results.items) (λ k. AllByRecursion (IsGivenIn k) l.initial.all × AllByRecursion (IsEndIn k.1) l.initial.results.items) l.results.items l.all

abbrev pub decreases-loop-node_result : goal.decreases-loop-node_result
decreases-loop-node_result l = length l.results.items
