-- What the jobs of a tandem ask for, its places, and the time read from the latest departures.
use Rattle.std.specs.Prelude.{ℕ, List, map}
use Rattle.mq_core.specs.Handling.{demand_of_job}
use Rattle.mq_core.specs.declared.model.Rows.{Rows}
use Rattle.mq_core.specs.declared.model.Stage.{Stage}
use Rattle.mq_maxplus.specs.Maxplus.{mp_or_zero}
use Rattle.mq_maxplus.specs.Matrices.{entry}
use Rattle.mq_maxplus.specs.declared.mp.Mp.{Mp}
use Rattle.mq_tandem.specs.Rows.{kept, last_row}

abbrev pub places_of : List Stage → List ℕ
places_of stages = map (λ (stage : Stage). stage.places) stages

abbrev pub asks_at_stages : Rows → List Stage → List ℕ → List (List ℕ)
asks_at_stages rows stages jobs = map (λ demand. map (demand_of_job rows demand) jobs) (map (λ (stage : Stage). stage.demand) stages)

-- the latest departure from the last stage
abbrev pub last_departure : List ℕ → List Mp → ℕ
last_departure places rows = mp_or_zero (entry rows (last_row (kept places)))
