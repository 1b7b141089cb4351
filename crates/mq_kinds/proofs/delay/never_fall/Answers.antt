use Rattle.std.proofs.Common.{subst, ◌≤◌}
use Rattle.std.proofs.lemmas.List.Sorted.{non_decreasing_from_is_sorted}
use Rattle.mq_core.specs.Laws.{Rises}
use Rattle.mq_merge.proofs.Sorted.{rises-by}
use Rattle.mq_kinds.proofs.delay.never_fall.Goals as goal

pub returns : goal.returns
returns c = λ yes. subst (Rises (λ a b. a ≤ b)) c.as_slice.ensures (rises-by _ _ _ (non_decreasing_from_is_sorted _ _ c.is_sorted.ensures.cases) yes)
