-- Counts of waits, for pieces of the visits.
use Rattle.std.specs.Prelude.{◌≡◌, ◌+◌, ◌++◌, ◌==◌, ◌<◌, ◌≤◌, ℕ, List, count_by, get_or, length}
use Rattle.std.specs.List.{AllByRecursion}
use Rattle.mq_core.specs.declared.model.Kind.{Kind}
use Rattle.mq_core.specs.declared.model.Rows.{Rows}
use Rattle.mq_core.specs.declared.model.Visits.{Visits}
use Rattle.mq_stats.specs.Numbers.{AreVisits, visits_between}
use Rattle.mq_stats.specs.Percentiles.{waits_at}
use Rattle.mq_stats.specs.declared.wait_counts.WaitCounts.{WaitCounts}

-- The counts of these waits, each number of ticks at its own index, with at least one more index after the longest wait. The table has at least 2
-- and at most 1,048,578 indices.
pub record AreWaitCounts (waits : List ℕ) (counts : WaitCounts) : Type 0 where
  pub many : counts.many ≡ length waits
  pub few : counts.many ≤ 1048576
  pub some : 1 < length counts.counts
  pub room : length counts.counts ≤ 1048578
  pub each : (wait : ℕ) → get_or counts.counts wait 0 ≡ count_by (λ w. w == wait) waits
  pub own : AllByRecursion (λ wait. wait + 1 < length counts.counts) waits

-- The waits of neighbouring visits, one after another, are the waits of all of them, and no more than the visits. The visits from the first to
-- the last are all visits.
pub record WaitsJoin : Type 0 where
  pub join : (rows : Rows) (kind : Kind) (visits : Visits) → AreVisits rows kind visits → (from middle to : ℕ) → from ≤ middle → middle ≤ to → to ≤ length visits.job →
      waits_at rows kind (visits_between from middle visits) ++ waits_at rows kind (visits_between middle to visits) ≡ waits_at rows kind (visits_between from to visits)
  pub few : (rows : Rows) (kind : Kind) (visits : Visits) → length (waits_at rows kind visits) ≤ length visits.job
  pub whole : (rows : Rows) (kind : Kind) (visits : Visits) → AreVisits rows kind visits → visits_between 0 (length visits.job) visits ≡ visits
