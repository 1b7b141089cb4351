-- A delay, as one value: each job is served at once.
use Rattle.std.specs.Prelude.{List, [], false, length, map, nat_lt, suc, true, ℕ, ◌+◌, ◌∷◌, ◌==◌, not, ◌++◌, filter}
use Rattle.mq_core.specs.Behaviour.{Behaviour}
use Rattle.mq_core.specs.Came.{Came}
use Rattle.mq_core.specs.Handling.{demand_of_job, latest, begins}
use Rattle.mq_core.specs.EmissionOrder.EmissionOrder.{Overtaking}
use Rattle.mq_core.specs.Local.{empty, Local}
use Rattle.mq_core.specs.Machine.{Emission, Visit, Reaction}
use Rattle.mq_core.specs.OnceOut.{founds_of, once_out}
use Rattle.mq_core.specs.Ranges.{columns_of_demand, is_sound_demand, is_within}
use Rattle.mq_core.specs.Recurrences.{delayed}
use Rattle.mq_core.specs.Tallies.{emission_at}
use Rattle.mq_core.specs.Told.{IsTold}
use Rattle.mq_core.specs.declared.model.Demand.{Demand}
use Rattle.mq_core.specs.declared.model.Fate.{Fate}
use Rattle.mq_core.specs.declared.model.Fate.TheVariants.{Departs}
use Rattle.mq_core.specs.declared.model.Rows.{Rows}
use Rattle.mq_core.specs.Event.{Event}
use Rattle.mq_core.specs.Event.Event.{Arrive, Finish}
use Rattle.std.proofs.Common.{arith}
use Rattle.mq_core.specs.Late.{Late}

-- a delay: each arrival begins its service at once, and leaves when that ends
abbrev pub delay_on : Rows → Demand → List Visit → Local → ℕ → Event → Reaction Local
delay_on rows demand visits local now (Arrive time node port job) =
    record {
      local = record local { scheduled = local.scheduled ++ latest visits ∷ [] };
      releases = [];
      services = begins rows demand visits now (latest visits) ∷ [];
    }
delay_on rows demand visits local now (Finish time node server position) =
    record {
      local = record local { scheduled = filter (λ p. not (p == position)) local.scheduled };
      releases = record { out = 0; position = position } ∷ [];
      services = [];
    }

-- what these visits let out, the first of them at this position: each leaves its demand after it came
abbrev pub delayed_from : Rows → Demand → ℕ → List Visit → List Emission
delayed_from rows demand position [] = []
delayed_from rows demand position (visit ∷ visits) =
    record { out = 0; position = position; job = visit.job; time = visit.arrive + demand_of_job rows demand visit.job }
    ∷ delayed_from rows demand (suc position) visits

-- the fates of the arrivals
abbrev pub delay_fates : Rows → Demand → Came → List Fate
delay_fates rows demand came = map (λ time. Departs time) (delayed came.arrive (map (demand_of_job rows demand) came.job))

-- the outputs by which they leave
abbrev pub delay_outs : Rows → Demand → Came → List ℕ
delay_outs rows demand came = map (λ _. 0) came.job

-- serves each job at once, for its demand
abbrev pub delay : Demand → Behaviour
delay demand =
    record {
      starts = false;
      opening = empty;
      on = λ rows ports visits local now event. delay_on rows demand visits local now event;
      jobs = λ visits local. length local.scheduled;
      working = λ local. length local.scheduled;
      holds = true;
      servers = 0;
      outputs = 1;
      ports = λ inputs. is_within 1 8 inputs;
      version = 1;
      sound = λ columns. is_sound_demand columns demand;
      mentioned = columns_of_demand demand;
      asked = λ rows job. IsTold rows demand job;
      bare = λ rows job. demand_of_job rows demand job;
      service = λ rows job. demand_of_job rows demand job;
      fate = λ m. Departs m.time;
      fates = λ rows came. delay_fates rows demand came;
      outs = λ rows came. delay_outs rows demand came;
      flow = λ rows ports visits. delayed_from rows demand 0 visits;
      order = Overtaking;
      copies = 1;
      exit = λ s position. emission_at s.emitted position;
      there = λ time position m. nat_lt time m.time;
      keeps = false;
      once = true;
      founds = λ rows came. founds_of came.arrive (delay_fates rows demand came);
      stream = λ rows came out. once_out Overtaking came (delay_fates rows demand came) (delay_outs rows demand came) out;
    }

-- a delay schedules nothing earlier than the clock
pub delay-late : (rows : Rows) (demand : Demand) (visits : List Visit) (local : Local) (now : ℕ) (event : Event) → Late now (delay_on rows demand visits local now event).services
delay-late rows demand visits local now (Arrive t n q j) = (omega arith, tt)
delay-late rows demand visits local now (Finish t n q j) = tt
