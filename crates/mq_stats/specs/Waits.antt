-- Visits whose waits are computed.
use Rattle.std.specs.Prelude.{◌≡◌, ◌*◌, ◌^◌, ◌≤◌, ℕ, List, All, fold, length, max, sum}
use Rattle.std.specs.List.{AllByRecursion}
use Rattle.mq_core.specs.Asked.{HasDemands}
use Rattle.mq_core.specs.Sequences.{sequence_services, sequence_waits}
use Rattle.mq_stats.specs.Percentiles.{departed_waits}
use Rattle.mq_stats.specs.declared.waits.Sums.{Sums}
use Rattle.mq_stats.specs.declared.waits.Waited.{Waited}
use Rattle.mq_stats.specs.declared.waits.Waiting.{Waiting}

-- The columns of some visits have one length. The rows give what each job asks for there. There are at most 1,048,576 visits.
pub record AreWaiting (waiting : Waiting) : Type 0 where
  pub few : length waiting.job.now ≤ 1048576
  pub arrives : length waiting.arrive.now ≡ length waiting.job.now
  pub fates : length waiting.fate.now ≡ length waiting.job.now
  pub told : All (λ job. HasDemands waiting.rows.now waiting.kind.now job) waiting.job.now

-- how long each visit waited
abbrev pub waits_in : Waiting → List ℕ
waits_in waiting = sequence_waits waiting.rows.now waiting.kind.now waiting.job.now waiting.arrive.now waiting.fate.now

-- how long each visit was served
abbrev pub services_in : Waiting → List ℕ
services_in waiting = sequence_services waiting.rows.now waiting.kind.now waiting.job.now waiting.fate.now

-- how long each visit that departs waited
abbrev pub departed_waits_in : Waiting → List ℕ
departed_waits_in waiting = departed_waits waiting.rows.now waiting.kind.now waiting.job.now waiting.arrive.now waiting.fate.now

-- the waits of the visits that depart, none longer than `longest`; `longest` and the sum are of the waits of all visits
pub record AreWaited (waiting : Waiting) (told : Waited) : Type 0 where
  pub waits : told.waits ≡ departed_waits_in waiting
  pub few : length told.waits ≤ 1048576
  pub most : AllByRecursion (λ wait. wait ≤ told.longest) told.waits
  pub wait : told.wait ≡ sum (waits_in waiting)
  pub longest : told.longest ≡ fold max 0 (waits_in waiting)
  pub small : told.wait ≤ length waiting.job.now * 2 ^ 64

-- the sum and the greatest of the waits, and the sum of the services
pub record AreSums (waiting : Waiting) (sums : Sums) : Type 0 where
  pub wait : sums.wait ≡ sum (waits_in waiting)
  pub longest : sums.longest ≡ fold max 0 (waits_in waiting)
  pub busy : sums.busy ≡ sum (services_in waiting)
  pub small : sums.wait ≤ length waiting.job.now * 2 ^ 64
  pub small_busy : sums.busy ≤ length waiting.job.now * 2 ^ 64
