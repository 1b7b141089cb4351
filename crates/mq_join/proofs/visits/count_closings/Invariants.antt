use Rattle.std.proofs.Common.{◌≡◌, ◌<◌, ℕ, length, take}
use Rattle.std.specs.Prelude.{count_by, slice_index}
use Rattle.mq_core.specs.Kinds.Join.{is_whole_at}
use Rattle.mq_join.proofs.visits.count_closings.Given as goal

abbrev pub invariant-loop-at : goal.invariant-loop-at
invariant-loop-at l = (place : ℕ) → place < length l.matches → slice_index l.closings place ≡ count_by (is_whole_at place) (take l.at l.matches)
