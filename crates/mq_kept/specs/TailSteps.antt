-- What holds after each step by which the last visits to a node are edited.
use Rattle.std.specs.Prelude.{◌≡◌, ◌+◌, ◌++◌, ◌∷◌, ◌≤◌, ℕ, List, [], length, map, take, Some}
use Rattle.mq_core.specs.Laws.{Rises}
use Rattle.mq_core.specs.OnceOut.{founds_of}
use Rattle.mq_core.specs.Results.{first_of}
use Rattle.mq_core.specs.Sequences.{sequence_late_from}
use Rattle.mq_core.specs.declared.model.Fate.TheVariants.{Departs}
use Rattle.mq_core.specs.declared.model.Stream.{Stream}
use Rattle.mq_engine.specs.declared.fault.RunFault.{RunFault}
use Rattle.mq_engine.specs.declared.fault.RunFault.TheVariants.{Memory, Over, Past}
use Rattle.mq_stations.specs.Late.{late_told}
use Rattle.mq_kept.specs.Tails.{departures_in}
use Rattle.mq_kept.specs.declared.former.NodeLists.{NodeLists}

-- all visits to a node depart, at these times, in the order in which they came, by one output
pub record AreInTurn (lists : NodeLists) (departs : List ℕ) : Type 0 where
  pub arrives : length lists.visits.arrive ≡ length lists.visits.job
  pub even : length departs ≡ length lists.visits.job
  pub fates : lists.visits.fate ≡ map (λ time. Departs time) departs
  pub founds : lists.visits.found ≡ founds_of lists.visits.arrive lists.visits.fate
  pub streams : lists.streams ≡ record { job = lists.visits.job; time = departs } ∷ []

-- visits of these jobs, which come and depart at these times, can follow the first `from` visits, replacing no more than there
-- are of them: neither arrivals nor departures fall
pub record IsNextTail (from : ℕ) (jobs times departs : List ℕ) (lists : NodeLists) : Type 0 where
  pub times_even : length times ≡ length jobs
  pub departs_even : length departs ≡ length jobs
  pub within : from ≤ length lists.visits.job
  pub longer : length lists.visits.job ≤ from + length jobs
  pub few : from + length jobs ≤ 1048576
  pub arrives : Rises (λ a b. a ≤ b) (take from lists.visits.arrive ++ times)
  pub departures : Rises (λ a b. a ≤ b) (take from (departures_in lists) ++ departs)

-- why visits that depart at these times are refused: one departs after the bound, or memory ran out
abbrev pub IsRefused : ℕ → ℕ → List ℕ → RunFault → Type 0
IsRefused bound v departs (Over fault) = ⊥
IsRefused bound v departs (Past fault) = first_of (sequence_late_from bound v 0 (map (λ time. Departs time) departs)) ≡ Some (late_told fault)
IsRefused bound v departs Memory = Unit {0}

-- a stream has no more items after the first `from` than these
pub record IsShorter (from : ℕ) (jobs times : List ℕ) (stream : Stream) : Type 0 where
  pub job_within : from ≤ length stream.job
  pub time_within : from ≤ length stream.time
  pub job : length stream.job ≤ from + length jobs
  pub time : length stream.time ≤ from + length times

-- the first `from` items of a list are as they were, and the list isn't shorter
pub record KeepsFirst {X : Type 0} (from : ℕ) (old new : List X) : Type 0 where
  pub first : take from new ≡ take from old
  pub longer : length old ≤ length new

-- the same holds for both lists of a stream
pub record StreamKeepsFirst (from : ℕ) (old new : Stream) : Type 0 where
  pub job : KeepsFirst from old.job new.job
  pub time : KeepsFirst from old.time new.time

-- the same holds for the only stream of a list
pub record OnlyKeepsFirst (from : ℕ) (old new : List Stream) : Type 0 where
  pub was : Stream
  pub stream : Stream
  pub old_is : old ≡ was ∷ []
  pub new_is : new ≡ stream ∷ []
  pub first : StreamKeepsFirst from was stream

-- the same holds for everything that is kept of a node with one output; its checkpoints are as they were
pub record ListsKeepFirst (from : ℕ) (old new : NodeLists) : Type 0 where
  pub job : KeepsFirst from old.visits.job new.visits.job
  pub arrive : KeepsFirst from old.visits.arrive new.visits.arrive
  pub found : KeepsFirst from old.visits.found new.visits.found
  pub fate : KeepsFirst from old.visits.fate new.visits.fate
  pub streams : OnlyKeepsFirst from old.streams new.streams
  pub checkpoints : new.checkpoints ≡ old.checkpoints
