-- Visits of jobs that all leave by one output in order of arrival: the arrivals and the departure times determine the rest.
use Rattle.std.specs.Prelude.{◌≤◌, ℕ, List, map}
use Rattle.mq_core.specs.Laws.{Rises}
use Rattle.mq_core.specs.OnceOut.{founds_of}
use Rattle.mq_core.specs.declared.model.Fate.TheVariants.{Departs}
use Rattle.mq_core.specs.declared.model.Stream.{Stream}
use Rattle.mq_core.specs.declared.model.Visits.{Visits}
use Rattle.mq_stats.specs.Numbers.{visits_of_columns}

-- the visits with these arrivals and these departure times
abbrev pub visits_in_turn : Stream → List ℕ → Visits
visits_in_turn arrivals departs =
    visits_of_columns arrivals.job arrivals.time (founds_of arrivals.time (map (λ time. Departs time) departs)) (map (λ time. Departs time) departs)

-- the stream that leaves
abbrev pub stream_in_turn : Stream → List ℕ → Stream
stream_in_turn arrivals departs = record { job = arrivals.job; time = departs }

-- arrival times never fall, and no visit overtakes another
pub record KeepTurn (arrivals : Stream) (departs : List ℕ) : Type 0 where
  pub come : Rises (λ a b. a ≤ b) arrivals.time
  pub leave : Rises (λ a b. a ≤ b) departs
