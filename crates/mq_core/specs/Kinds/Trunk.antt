-- A trunk group, as one value: several servers, no place to wait, and two outputs.
use Rattle.std.specs.Prelude.{List, [], false, filter, if◌then◌else◌, length, map, nat_lt, not, true, ℕ, ◌&&◌, ◌++◌, ◌==◌, ◌∷◌}
use Rattle.std.proofs.Common.{arith, Bool}
use Rattle.mq_core.specs.Behaviour.{Behaviour}
use Rattle.mq_core.specs.Came.{Came}
use Rattle.mq_core.specs.Handling.{begins, demand_of_job, latest, passes_on}
use Rattle.mq_core.specs.EmissionOrder.EmissionOrder.{Overtaking}
use Rattle.mq_core.specs.Local.{empty, Local}
use Rattle.mq_core.specs.Machine.{Visit, Reaction}
use Rattle.mq_core.specs.OnceOut.{faring_from, founds_of, once_out, out_of_fate}
use Rattle.mq_core.specs.Ranges.{columns_of_demand, is_sound_demand, is_within}
use Rattle.mq_core.specs.Recurrences.{trunk_fates}
use Rattle.mq_core.specs.Tallies.{emission_at}
use Rattle.mq_core.specs.Told.{IsTold}
use Rattle.mq_core.specs.declared.model.Demand.{Demand}
use Rattle.mq_core.specs.declared.model.Fate.{Fate}
use Rattle.mq_core.specs.declared.model.Fate.TheVariants.{Departs, Lost}
use Rattle.mq_core.specs.declared.model.Rows.{Rows}
use Rattle.mq_core.specs.Event.{Event}
use Rattle.mq_core.specs.Event.Event.{Arrive, Finish}
use Rattle.mq_core.specs.Late.{Late}

-- a position begins its service at once, beside those in service
abbrev pub joins_service : Rows → Demand → List Visit → Local → ℕ → ℕ → Reaction Local
joins_service rows demand visits local now position =
    record {
      local = record local { scheduled = local.scheduled ++ position ∷ [] };
      releases = [];
      services = begins rows demand visits now position ∷ [];
    }

-- a trunk group: if all servers are busy, an arrival leaves by output 1; otherwise it begins its service at once, and leaves by
-- output 0 when that ends
abbrev pub trunk_on : Rows → ℕ → Demand → List Visit → Local → ℕ → Event → Reaction Local
trunk_on rows servers demand visits local now (Arrive time node port job) =
    if nat_lt (length local.scheduled) servers
    then joins_service rows demand visits local now (latest visits)
    else passes_on local 1 (latest visits)
trunk_on rows servers demand visits local now (Finish time node server position) =
    record {
      local = record local { scheduled = filter (λ p. not (p == position)) local.scheduled };
      releases = record { out = 0; position = position } ∷ [];
      services = [];
    }

-- the fates of the arrivals
abbrev pub trunk_by : Rows → ℕ → Demand → Came → List Fate
trunk_by rows servers demand came = trunk_fates servers [] came.arrive (map (demand_of_job rows demand) came.job)

-- the outputs by which they leave
abbrev pub trunk_outs : Rows → ℕ → Demand → Came → List ℕ
trunk_outs rows servers demand came = map out_of_fate (trunk_fates servers [] came.arrive (map (demand_of_job rows demand) came.job))

-- a number of servers and no place to wait; an arrival that finds them all busy is lost, and leaves by output 1
abbrev pub trunk : ℕ → Demand → Behaviour
trunk servers demand =
    record {
      starts = false;
      opening = empty;
      on = λ rows ports visits local now event. trunk_on rows servers demand visits local now event;
      jobs = λ visits local. length local.scheduled;
      working = λ local. length local.scheduled;
      holds = true;
      servers = servers;
      outputs = 2;
      ports = λ inputs. is_within 1 8 inputs;
      version = 2;
      sound = λ columns. is_within 1 255 servers && is_sound_demand columns demand;
      mentioned = columns_of_demand demand;
      asked = λ rows job. IsTold rows demand job;
      bare = λ rows job. demand_of_job rows demand job;
      service = λ rows job. demand_of_job rows demand job;
      fate = λ m. if m.out == 1 then Lost else Departs m.time;
      fates = λ rows came. trunk_by rows servers demand came;
      outs = λ rows came. trunk_outs rows servers demand came;
      flow = λ rows ports visits. faring_from 0 (trunk_fates servers [] (map (λ (x : Visit). x.arrive) visits) (map (λ (x : Visit). demand_of_job rows demand x.job) visits)) visits;
      order = Overtaking;
      copies = 1;
      exit = λ s position. emission_at s.emitted position;
      there = λ time position m. nat_lt time m.time;
      keeps = false;
      once = true;
      founds = λ rows came. founds_of came.arrive (trunk_by rows servers demand came);
      stream = λ rows came out. once_out Overtaking came (trunk_by rows servers demand came) (trunk_outs rows servers demand came) out;
    }

-- an arrival, admitted or not
admits-late : (rows : Rows) (demand : Demand) (visits : List Visit) (local : Local) (now : ℕ) (b : Bool) → Late now (if b then joins_service rows demand visits local now (latest visits) else passes_on local 1 (latest visits)).services
admits-late rows demand visits local now true = (omega arith, tt)
admits-late rows demand visits local now false = tt

-- a trunk group schedules nothing earlier than the clock
pub trunk-late : (rows : Rows) (servers : ℕ) (demand : Demand) (visits : List Visit) (local : Local) (now : ℕ) (event : Event) → Late now (trunk_on rows servers demand visits local now event).services
trunk-late rows servers demand visits local now (Arrive t n q j) = admits-late rows demand visits local now (nat_lt (length local.scheduled) servers)
trunk-late rows servers demand visits local now (Finish t n q j) = tt
