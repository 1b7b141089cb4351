-- A loss station, as one value: one server, a number of places, and two outputs.
use Rattle.std.specs.Prelude.{List, [], false, if◌then◌else◌, length, map, nat_lt, true, ℕ, ◌&&◌, ◌==◌}
use Rattle.std.proofs.Common.{Bool}
use Rattle.mq_core.specs.Behaviour.{Behaviour}
use Rattle.mq_core.specs.Came.{Came}
use Rattle.mq_core.specs.Handling.{demand_of_job, one_if_some, latest, passes_on, queues_up, front_leaves}
use Rattle.mq_core.specs.EmissionOrder.EmissionOrder.{Mixed}
use Rattle.mq_core.specs.Local.{empty, Local}
use Rattle.mq_core.specs.Machine.{Visit, Reaction}
use Rattle.mq_core.specs.OnceOut.{faring_from, founds_of, once_out, out_of_fate}
use Rattle.mq_core.specs.Ranges.{columns_of_demand, is_sound_demand, is_within}
use Rattle.mq_core.specs.Recurrences.{loss_fates}
use Rattle.mq_core.specs.Tallies.{emission_at}
use Rattle.mq_core.specs.Told.{IsTold}
use Rattle.mq_core.specs.declared.model.Demand.{Demand}
use Rattle.mq_core.specs.declared.model.Fate.{Fate}
use Rattle.mq_core.specs.declared.model.Fate.TheVariants.{Departs, Lost}
use Rattle.mq_core.specs.declared.model.Rows.{Rows}
use Rattle.mq_core.specs.Event.{Event}
use Rattle.mq_core.specs.Event.Event.{Arrive, Finish}
use Rattle.mq_core.specs.Late.{Late, queues_up-late, front_leaves-late}

-- a loss station: if all places are taken, an arrival leaves by output 1, otherwise it does as at a server
abbrev pub loss_on : Rows → ℕ → Demand → List Visit → Local → ℕ → Event → Reaction Local
loss_on rows places demand visits local now (Arrive time node port job) =
    if nat_lt (length local.queue) places
    then queues_up rows demand visits local now local.queue (latest visits)
    else passes_on local 1 (latest visits)
loss_on rows places demand visits local now (Finish time node server position) = front_leaves rows demand visits local now local.queue

-- the fates of the arrivals
abbrev pub loss_by : Rows → ℕ → Demand → Came → List Fate
loss_by rows places demand came = loss_fates places [] came.arrive (map (demand_of_job rows demand) came.job)

-- the outputs by which they leave
abbrev pub loss_outs : Rows → ℕ → Demand → Came → List ℕ
loss_outs rows places demand came = map out_of_fate (loss_fates places [] came.arrive (map (demand_of_job rows demand) came.job))

-- one server and a number of places; an arrival that finds no place is lost, and leaves by output 1
abbrev pub loss : ℕ → Demand → Behaviour
loss places demand =
    record {
      starts = false;
      opening = empty;
      on = λ rows ports visits local now event. loss_on rows places demand visits local now event;
      jobs = λ visits local. length local.queue;
      working = λ local. one_if_some local.queue;
      holds = true;
      servers = 1;
      outputs = 2;
      ports = λ inputs. is_within 1 8 inputs;
      version = 1;
      sound = λ columns. is_within 1 1048576 places && is_sound_demand columns demand;
      mentioned = columns_of_demand demand;
      asked = λ rows job. IsTold rows demand job;
      bare = λ rows job. demand_of_job rows demand job;
      service = λ rows job. demand_of_job rows demand job;
      fate = λ m. if m.out == 1 then Lost else Departs m.time;
      fates = λ rows came. loss_by rows places demand came;
      outs = λ rows came. loss_outs rows places demand came;
      flow = λ rows ports visits. faring_from 0 (loss_fates places [] (map (λ (x : Visit). x.arrive) visits) (map (λ (x : Visit). demand_of_job rows demand x.job) visits)) visits;
      order = Mixed;
      copies = 1;
      exit = λ s position. emission_at s.emitted position;
      there = λ time position m. nat_lt time m.time;
      keeps = false;
      once = true;
      founds = λ rows came. founds_of came.arrive (loss_by rows places demand came);
      stream = λ rows came out. once_out Mixed came (loss_by rows places demand came) (loss_outs rows places demand came) out;
    }

-- an arrival, admitted or not
admits-late : (rows : Rows) (places : ℕ) (demand : Demand) (visits : List Visit) (local : Local) (now : ℕ) (b : Bool) → Late now (if b then queues_up rows demand visits local now local.queue (latest visits) else passes_on local 1 (latest visits)).services
admits-late rows places demand visits local now true = queues_up-late rows demand visits local now local.queue (latest visits)
admits-late rows places demand visits local now false = tt

-- a loss station schedules nothing earlier than the clock
pub loss-late : (rows : Rows) (places : ℕ) (demand : Demand) (visits : List Visit) (local : Local) (now : ℕ) (event : Event) → Late now (loss_on rows places demand visits local now event).services
loss-late rows places demand visits local now (Arrive t n q j) = admits-late rows places demand visits local now (nat_lt (length local.queue) places)
loss-late rows places demand visits local now (Finish t n q j) = front_leaves-late rows demand visits local now local.queue
