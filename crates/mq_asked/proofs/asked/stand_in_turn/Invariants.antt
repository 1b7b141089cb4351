use Rattle.std.proofs.Common.{◌≡◌, ◌<◌, Some, slice_get, ℕ}
use Rattle.mq_asked.proofs.asked.stand_in_turn.Given as goal

-- the jobs so far stand in turn
abbrev pub invariant-loop-at : goal.invariant-loop-at
invariant-loop-at l = (k job : ℕ) → k < l.at → slice_get l.jobs k ≡ Some job → job ≡ k
