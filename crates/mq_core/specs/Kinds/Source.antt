-- A source, as one value: jobs start here.
use Rattle.std.specs.Prelude.{List, [], false, map, nat_lt, true, ℕ, ◌==◌}
use Rattle.mq_core.specs.Behaviour.{Behaviour}
use Rattle.mq_core.specs.Came.{Came}
use Rattle.mq_core.specs.Emitting.{passed_from}
use Rattle.mq_core.specs.Event.{Event}
use Rattle.mq_core.specs.Event.Event.{Arrive, Finish}
use Rattle.mq_core.specs.Handling.{latest, passes_on, quiet}
use Rattle.mq_core.specs.EmissionOrder.EmissionOrder.{ByPosition}
use Rattle.mq_core.specs.Local.{Local, empty}
use Rattle.mq_core.specs.Machine.{Reaction, Visit}
use Rattle.mq_core.specs.OnceOut.{founds_of, once_out}
use Rattle.mq_core.specs.Tallies.{emission_at}
use Rattle.mq_core.specs.declared.model.Fate.{Fate}
use Rattle.mq_core.specs.declared.model.Fate.TheVariants.{Departs}
use Rattle.mq_core.specs.declared.model.Rows.{Rows}
use Rattle.mq_core.specs.Late.{Late}

-- a source lets each job out when it comes
abbrev pub source_on : List Visit → Local → Event → Reaction Local
source_on visits local (Arrive time node port job) = passes_on local 0 (latest visits)
source_on visits local (Finish time node server position) = quiet local

-- the fates of the arrivals
abbrev pub source_fates : Rows → Came → List Fate
source_fates rows came = map (λ time. Departs time) came.arrive

-- the outputs by which they leave
abbrev pub source_outs : Rows → Came → List ℕ
source_outs rows came = map (λ _. 0) came.job

-- where jobs come from: each goes on when it comes
abbrev pub source : Behaviour
source =
    record {
      starts = true;
      opening = empty;
      on = λ rows ports visits local now event. source_on visits local event;
      jobs = λ visits local. 0;
      working = λ local. 0;
      holds = false;
      servers = 0;
      outputs = 1;
      ports = λ inputs. inputs == 0;
      version = 1;
      sound = λ columns. true;
      mentioned = [];
      asked = λ rows job. Unit {0};
      bare = λ rows job. 0;
      service = λ rows job. 0;
      fate = λ m. Departs m.time;
      fates = λ rows came. source_fates rows came;
      outs = λ rows came. source_outs rows came;
      flow = λ rows ports visits. passed_from (λ _ _. 0) 0 visits;
      order = ByPosition;
      copies = 1;
      exit = λ s position. emission_at s.emitted position;
      there = λ time position m. nat_lt time m.time;
      keeps = false;
      once = true;
      founds = λ rows came. founds_of came.arrive (source_fates rows came);
      stream = λ rows came out. once_out ByPosition came (source_fates rows came) (source_outs rows came) out;
    }

-- a source schedules nothing
pub source-late : (visits : List Visit) (local : Local) (now : ℕ) (event : Event) → Late now (source_on visits local event).services
source-late visits local now (Arrive t n q j) = tt
source-late visits local now (Finish t n q j) = tt
