use Rattle.std.proofs.Common.{◌≡◌, ℕ, length}
use Rattle.mq_core.specs.declared.model.Rows.{Rows}
use Rattle.mq_engine.specs.Counting.{IsCounting}
use Rattle.mq_engine.proofs.counting.let_go.Given as goal

abbrev pub invariant-loop-node : goal.invariant-loop-node
invariant-loop-node l = record {
  counting : (rows : Rows) (form : ℕ) → IsCounting l.plan rows form l.initial.counting.counts.items l.initial.counting.outputs.items l.initial.counting.stands.items → IsCounting l.plan rows form l.counting.counts.items l.counting.outputs.items l.counting.stands.items;
  stand : l.counting.stands.items ≡ l.initial.counting.stands.items;
  left : length l.counting.outputs.items ≡ length l.plan.net.nodes;
}
