-- The last visits to a node whose jobs leave in the order in which they came, by one output: how they are edited in place, and
-- restored.
use Rattle.std.specs.Prelude.{◌≡◌, ◌+◌, ◌++◌, ◌∷◌, ◌≤◌, ℕ, List, [], length, map, take, Some, slice_get}
use Rattle.mq_core.specs.Sequences.{time_of_fate}
use Rattle.mq_core.specs.Theorems.{IsReadFor}
use Rattle.mq_core.specs.declared.model.Fate.TheVariants.{Departs}
use Rattle.mq_core.specs.declared.model.Node.{Node}
use Rattle.mq_core.specs.declared.model.Plan.{Plan}
use Rattle.mq_core.specs.declared.model.Rows.{Rows}
use Rattle.mq_core.specs.declared.model.Stream.{Stream}
use Rattle.mq_core.specs.declared.model.Visits.{Visits}
use Rattle.mq_exits.specs.Loads.{IsLoaded}
use Rattle.mq_stations.specs.Leaving.{AreServed}
use Rattle.mq_kept.specs.declared.former.NodeLists.{NodeLists}
use Rattle.mq_kept.specs.declared.tails.FormerTail.{FormerTail}

-- when the visits to a node depart
abbrev pub departures_in : NodeLists → List ℕ
departures_in lists = map time_of_fate lists.visits.fate

-- what comes to a node: its first `from` visits, then these jobs at these times
abbrev pub coming_behind : ℕ → Visits → List ℕ → List ℕ → Stream
coming_behind from visits jobs times = record { job = take from visits.job ++ jobs; time = take from visits.arrive ++ times }

-- all jobs of a station of the plan depart at these times, by position, and its kind is one whose jobs keep their order
abbrev pub AreServedAt : Plan → Rows → ℕ → Stream → List ℕ → Type 0
AreServedAt plan rows v arrivals departs = (node : Node) → slice_get plan.net.nodes v ≡ Some node → AreServed rows node.kind arrivals departs

-- in a run over rows, these jobs come to a node after its first `from` visits and depart, at these times, in the order in which
-- they came, by one output; there are no fewer visits than are kept of the node
pub record IsTailFor (plan : Plan) (rows : Rows) (v : ℕ) (lists : NodeLists) (from : ℕ) (jobs times departs : List ℕ) : Type 0 where
  pub times_even : length times ≡ length jobs
  pub departs_even : length departs ≡ length jobs
  pub within : from ≤ length lists.visits.job
  pub longer : length lists.visits.job ≤ from + length jobs
  pub read : IsReadFor plan.net rows
  pub loaded : IsLoaded plan rows v (coming_behind from lists.visits jobs times)
  pub served : AreServedAt plan rows v (coming_behind from lists.visits jobs times) (take from (departures_in lists) ++ departs)

-- these jobs now follow the first `from` visits, in place of the others, and also in what left
pub record IsTailPut (from : ℕ) (jobs times departs : List ℕ) (old new : NodeLists) : Type 0 where
  pub job : new.visits.job ≡ take from old.visits.job ++ jobs
  pub arrive : new.visits.arrive ≡ take from old.visits.arrive ++ times
  pub fate : new.visits.fate ≡ take from old.visits.fate ++ map (λ time. Departs time) departs
  pub streams : new.streams ≡ record { job = take from old.visits.job ++ jobs; time = take from (departures_in old) ++ departs } ∷ []
  pub checkpoints : new.checkpoints ≡ old.checkpoints

-- a stream with its first `from` items, followed by these
abbrev pub stream_before : ℕ → List ℕ → List ℕ → Stream → Stream
stream_before from job time stream = record { job = take from stream.job ++ job; time = take from stream.time ++ time }

-- what was kept of a node before its last visits were edited, given what is kept now; its checkpoints stay
abbrev pub tail_before : FormerTail → NodeLists → NodeLists
tail_before former lists =
    record {
      visits =
          record {
            job = take former.from lists.visits.job ++ former.job;
            arrive = take former.from lists.visits.arrive ++ former.arrive;
            found = take former.from lists.visits.found ++ former.found;
            fate = take former.from lists.visits.fate ++ map (λ time. Departs time) former.departs;
          };
      streams = map (stream_before former.from former.job former.departs) lists.streams;
      checkpoints = lists.checkpoints;
    }

-- the stream has at least as many items after the first `from` as these
pub record HasRoom (from : ℕ) (jobs times : List ℕ) (stream : Stream) : Type 0 where
  pub job : from + length jobs ≤ length stream.job
  pub time : from + length times ≤ length stream.time

-- the former visits, and what left of them, have room: no list is shorter now
pub record IsTailOf (former : FormerTail) (lists : NodeLists) : Type 0 where
  pub job : former.from + length former.job ≤ length lists.visits.job
  pub arrive : former.from + length former.arrive ≤ length lists.visits.arrive
  pub found : former.from + length former.found ≤ length lists.visits.found
  pub fate : former.from + length former.departs ≤ length lists.visits.fate
  pub stream : Stream
  pub one : lists.streams ≡ stream ∷ []
  pub room : HasRoom former.from former.job former.departs stream
