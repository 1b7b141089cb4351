use Rattle.std.proofs.Common.{◌≡◌, ◌<◌, ℕ, Some}
use Rattle.std.specs.Prelude.{slice_get}
use Rattle.mq_engine.specs.declared.progress.Stand.TheVariants.{Done}
use Rattle.mq_engine.proofs.counted.ended_counts.Given as goal

abbrev pub invariant-loop-rank : goal.invariant-loop-rank
invariant-loop-rank l = (q v : ℕ) → q < l.rank → slice_get l.plan.order q ≡ Some v → slice_get l.counting.stands.items v ≡ Some Done
