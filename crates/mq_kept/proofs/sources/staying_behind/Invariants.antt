use Rattle.std.proofs.Common.{◌≡◌, ℕ, ◌+◌, ◌≤◌, ◌++◌, drop, length}
use Rattle.std.specs.List.{zip}
use Rattle.std.specs.Prelude.{filter, nat_lt}
use Rattle.std.specs.Vec.{vec_len, vec_capacity}
use Rattle.mq_kept.specs.SourceTails.{staying_behind}
use Rattle.mq_kept.proofs.sources.staying_behind.Given as goal

-- the visits so far that stay and those of what is left are all that do, for which there is room
abbrev pub invariant-loop-at : goal.invariant-loop-at
invariant-loop-at l = record {
  even : vec_len l.jobs ≡ vec_len l.times;
  items : zip l.times.items l.jobs.items ++ filter (λ (p : ℕ × ℕ). nat_lt p.1 l.row) (zip (drop l.at l.visits.arrive) (drop l.at l.visits.job)) ≡ staying_behind l.first l.row l.visits;
  room : vec_len l.jobs + length l.visits.job ≤ vec_capacity l.jobs + l.at;
  space : vec_len l.times + length l.visits.job ≤ vec_capacity l.times + l.at;
}
