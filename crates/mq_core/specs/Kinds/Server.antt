-- A server, as one value: its handler, its recurrence, its numbers.
use Rattle.std.specs.Prelude.{List, [], false, length, map, max, nat_lt, suc, true, ℕ, ◌+◌, ◌∷◌}
use Rattle.mq_core.specs.Behaviour.{Behaviour}
use Rattle.mq_core.specs.Came.{Came}
use Rattle.mq_core.specs.Event.{Event}
use Rattle.mq_core.specs.Event.Event.{Arrive, Finish}
use Rattle.mq_core.specs.Handling.{demand_of_job, front_leaves, queues_up, latest, one_if_some}
use Rattle.mq_core.specs.EmissionOrder.EmissionOrder.{ByPosition}
use Rattle.mq_core.specs.Local.{Local, empty}
use Rattle.mq_core.specs.Machine.{Emission, Reaction, Visit}
use Rattle.mq_core.specs.OnceOut.{founds_of, once_out}
use Rattle.mq_core.specs.Ranges.{columns_of_demand, is_sound_demand, is_within}
use Rattle.mq_core.specs.Recurrences.{lindley}
use Rattle.mq_core.specs.Tallies.{emission_at}
use Rattle.mq_core.specs.Told.{IsTold}
use Rattle.mq_core.specs.declared.model.Demand.{Demand}
use Rattle.mq_core.specs.declared.model.Fate.{Fate}
use Rattle.mq_core.specs.declared.model.Fate.TheVariants.{Departs}
use Rattle.mq_core.specs.declared.model.Rows.{Rows}
use Rattle.mq_core.specs.Late.{Late, front_leaves-late, queues_up-late}

-- a server: an arrival queues up, and at a finish the front leaves
abbrev pub server_on : Rows → Demand → List Visit → Local → ℕ → Event → Reaction Local
server_on rows demand visits local now (Arrive time node port job) = queues_up rows demand visits local now local.queue (latest visits)
server_on rows demand visits local now (Finish time node server position) = front_leaves rows demand visits local now local.queue

-- when a visit leaves a server that the visit before it left at time `last`
abbrev pub served : Rows → Demand → ℕ → Visit → ℕ
served rows demand last visit = max visit.arrive last + demand_of_job rows demand visit.job

-- what these visits let out, the first of them at this position: each leaves when it has been served
abbrev pub served_from : Rows → Demand → ℕ → ℕ → List Visit → List Emission
served_from rows demand position last [] = []
served_from rows demand position last (visit ∷ visits) =
    record { out = 0; position = position; job = visit.job; time = served rows demand last visit }
    ∷ served_from rows demand (suc position) (served rows demand last visit) visits

-- the fates of the arrivals
abbrev pub server_fates : Rows → Demand → Came → List Fate
server_fates rows demand came = map (λ time. Departs time) (lindley 0 came.arrive (map (demand_of_job rows demand) came.job))

-- the outputs by which they leave
abbrev pub server_outs : Rows → Demand → Came → List ℕ
server_outs rows demand came = map (λ _. 0) came.job

-- one server with an unlimited queue
abbrev pub server : Demand → Behaviour
server demand =
    record {
      starts = false;
      opening = empty;
      on = λ rows ports visits local now event. server_on rows demand visits local now event;
      jobs = λ visits local. length local.queue;
      working = λ local. one_if_some local.queue;
      holds = true;
      servers = 1;
      outputs = 1;
      ports = λ inputs. is_within 1 8 inputs;
      version = 1;
      sound = λ columns. is_sound_demand columns demand;
      mentioned = columns_of_demand demand;
      asked = λ rows job. IsTold rows demand job;
      bare = λ rows job. demand_of_job rows demand job;
      service = λ rows job. demand_of_job rows demand job;
      fate = λ m. Departs m.time;
      fates = λ rows came. server_fates rows demand came;
      outs = λ rows came. server_outs rows demand came;
      flow = λ rows ports visits. served_from rows demand 0 0 visits;
      order = ByPosition;
      copies = 1;
      exit = λ s position. emission_at s.emitted position;
      there = λ time position m. nat_lt time m.time;
      keeps = false;
      once = true;
      founds = λ rows came. founds_of came.arrive (server_fates rows demand came);
      stream = λ rows came out. once_out ByPosition came (server_fates rows demand came) (server_outs rows demand came) out;
    }

-- a server schedules nothing earlier than the clock
pub server-late : (rows : Rows) (demand : Demand) (visits : List Visit) (local : Local) (now : ℕ) (event : Event) → Late now (server_on rows demand visits local now event).services
server-late rows demand visits local now (Arrive t n q j) = queues_up-late rows demand visits local now local.queue (latest visits)
server-late rows demand visits local now (Finish t n q j) = front_leaves-late rows demand visits local now local.queue
