-- A split, as one value: its routes, and the output by which each job leaves.
use Rattle.std.specs.List.{list_all}
use Rattle.std.specs.Prelude.{Bool, List, [], count_by, false, length, map, nat_le, nat_lt, suc, true, ℕ, ◌%◌, ◌&&◌, ◌+◌, ◌^◌, ◌∷◌}
use Rattle.mq_core.specs.Behaviour.{Behaviour}
use Rattle.mq_core.specs.Came.{Came}
use Rattle.mq_core.specs.Emitting.{passed_from}
use Rattle.mq_core.specs.Event.{Event}
use Rattle.mq_core.specs.Event.Event.{Arrive, Finish}
use Rattle.mq_core.specs.Handling.{latest, passes_on, quiet, value_of}
use Rattle.mq_core.specs.EmissionOrder.EmissionOrder.{ByPosition}
use Rattle.mq_core.specs.Local.{Local, empty}
use Rattle.mq_core.specs.Machine.{Reaction, Visit}
use Rattle.mq_core.specs.OnceOut.{founds_of, once_out}
use Rattle.mq_core.specs.Ranges.{is_within, rises}
use Rattle.mq_core.specs.Tallies.{emission_at}
use Rattle.mq_core.specs.Told.{HasDemand}
use Rattle.mq_core.specs.declared.model.Demand.TheVariants.{Column}
use Rattle.mq_core.specs.declared.model.Fate.{Fate}
use Rattle.mq_core.specs.declared.model.Fate.TheVariants.{Departs}
use Rattle.mq_core.specs.declared.model.Route.{Route}
use Rattle.mq_core.specs.declared.model.Route.TheVariants.{Cut, Modulo, Turn}
use Rattle.mq_core.specs.declared.model.Rows.{Rows}
use Rattle.mq_core.specs.Late.{Late}

-- the output that a route gives to a value, or to a position if the outputs take turns
abbrev pub output_at : Route → ℕ → ℕ → ℕ
output_at (Modulo outputs column) value position = value % outputs
output_at (Turn outputs) value position = position % outputs
output_at (Cut column thresholds) value position = count_by (λ threshold. nat_le threshold value) thresholds

-- the value of a job that a route reads; 0 if the outputs take turns, since that reads none
abbrev pub route_value : Rows → Route → ℕ → ℕ
route_value rows (Modulo outputs column) job = value_of rows column job
route_value rows (Turn outputs) job = 0
route_value rows (Cut column thresholds) job = value_of rows column job

-- the rows have the value of this job that a route reads, if it reads one
abbrev pub HasRouteValue : Rows → Route → ℕ → Type 0
HasRouteValue rows (Modulo outputs column) job = HasDemand rows (Column column) job
HasRouteValue rows (Turn outputs) job = Unit {0}
HasRouteValue rows (Cut column thresholds) job = HasDemand rows (Column column) job

-- the output that a route gives to a job at a position
abbrev pub output_by : Rows → Route → ℕ → ℕ → ℕ
output_by rows route job position = output_at route (route_value rows route job) position

-- a split lets each job out when it comes, by the output that its route gives
abbrev pub split_on : Rows → Route → List Visit → Local → Event → Reaction Local
split_on rows route visits local (Arrive time node port job) = passes_on local (output_by rows route job (latest visits)) (latest visits)
split_on rows route visits local (Finish time node server position) = quiet local

-- 2 to 8 outputs, a column that exists, and thresholds that rise and are in their limit
abbrev pub is_sound_route : ℕ → Route → Bool
is_sound_route columns (Modulo outputs column) = is_within 2 8 outputs && nat_lt column columns
is_sound_route columns (Turn outputs) = is_within 2 8 outputs
is_sound_route columns (Cut column thresholds) =
    nat_lt column columns && is_within 1 7 (length thresholds) && rises thresholds && list_all (λ threshold. nat_le threshold (2 ^ 36)) thresholds

-- the number of outputs that a route chooses from
abbrev pub outputs_by : Route → ℕ
outputs_by (Modulo outputs column) = outputs
outputs_by (Turn outputs) = outputs
outputs_by (Cut column thresholds) = length thresholds + 1

-- the columns that a route mentions
abbrev pub columns_of_route : Route → List ℕ
columns_of_route (Modulo outputs column) = column ∷ []
columns_of_route (Turn outputs) = []
columns_of_route (Cut column thresholds) = column ∷ []

-- the output by which each job leaves, the first of them at this position
abbrev pub routes_from : Rows → Route → ℕ → List ℕ → List ℕ
routes_from rows route position [] = []
routes_from rows route position (job ∷ jobs) = output_by rows route job position ∷ routes_from rows route (suc position) jobs

-- the fates of the arrivals
abbrev pub split_fates : Rows → Route → Came → List Fate
split_fates rows route came = map (λ time. Departs time) came.arrive

-- the outputs by which they leave
abbrev pub split_outs : Rows → Route → Came → List ℕ
split_outs rows route came = routes_from rows route 0 came.job

-- sends each job on at once, by one of its outputs
abbrev pub split : Route → Behaviour
split route =
    record {
      starts = false;
      opening = empty;
      on = λ rows ports visits local now event. split_on rows route visits local event;
      jobs = λ visits local. 0;
      working = λ local. 0;
      holds = false;
      servers = 0;
      outputs = outputs_by route;
      ports = λ inputs. is_within 1 8 inputs;
      version = 1;
      sound = λ columns. is_sound_route columns route;
      mentioned = columns_of_route route;
      asked = λ rows job. HasRouteValue rows route job;
      bare = λ rows job. 0;
      service = λ rows job. 0;
      fate = λ m. Departs m.time;
      fates = λ rows came. split_fates rows route came;
      outs = λ rows came. split_outs rows route came;
      flow = λ rows ports visits. passed_from (λ visit position. output_by rows route visit.job position) 0 visits;
      order = ByPosition;
      copies = 1;
      exit = λ s position. emission_at s.emitted position;
      there = λ time position m. nat_lt time m.time;
      keeps = false;
      once = true;
      founds = λ rows came. founds_of came.arrive (split_fates rows route came);
      stream = λ rows came out. once_out ByPosition came (split_fates rows route came) (split_outs rows route came) out;
    }

-- a split schedules nothing
pub split-late : (rows : Rows) (route : Route) (visits : List Visit) (local : Local) (now : ℕ) (event : Event) → Late now (split_on rows route visits local event).services
split-late rows route visits local now (Arrive t n q j) = tt
split-late rows route visits local now (Finish t n q j) = tt
