-- Neighbouring jobs of a fork-join, which act one after another.
use Rattle.std.specs.Prelude.{◌≡◌, ◌+◌, ◌-◌, ◌<◌, ◌≤◌, ◌^◌, All, ℕ, List, length}
use Rattle.mq_forkjoin.specs.Runs.{range_run}
use Rattle.mq_forkjoin.specs.declared.step.ForkJoinStep.{ForkJoinStep}
use Rattle.mq_forkjoin.specs.declared.scan.Jobs.{Jobs}

-- jobs that act one after another: those of a range, the job at an index, and neighbouring ranges
abbrev pub jobs_act : Jobs → List ℕ → List ℕ
jobs_act s last = range_run s.step.arrive.now s.step.begins.now s.step.demands.now s.from (s.to - s.from) last

abbrev pub one_job : ForkJoinStep → ℕ → Jobs
one_job s at = record { step = s; from = at; to = at + 1 }

abbrev pub jobs_join : Jobs → Jobs → Jobs
jobs_join a b = record { step = a.step; from = a.from; to = b.to }

-- one range begins where the other ends
pub record CanJoin (a b : Jobs) : Type 0 where
  pub step : a.step ≡ b.step
  pub meet : a.to ≡ b.from
  pub first : a.from ≤ a.to
  pub second : b.from ≤ b.to

-- the jobs of a range may act: they exist, and all departures fit
pub record CanServe (s : Jobs) (last : List ℕ) : Type 0 where
  pub order : s.from ≤ s.to
  pub inside : s.to ≤ length s.step.arrive.now
  pub servers : length last ≡ 8
  pub fits : (n : ℕ) → n ≤ s.to - s.from → All (λ time. time < 2 ^ 64) (range_run s.step.arrive.now s.step.begins.now s.step.demands.now s.from n last)
