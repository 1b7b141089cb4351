-- A fork, as one value: it copies each job to all its outputs.
use Rattle.std.specs.Prelude.{Bool, List, [], false, map, nat_lt, suc, true, zero, ℕ, ◌++◌, ◌∷◌}
use Rattle.mq_core.specs.Behaviour.{Behaviour}
use Rattle.mq_core.specs.Came.{Came}
use Rattle.mq_core.specs.EmissionOrder.EmissionOrder.{ByPosition}
use Rattle.mq_core.specs.Event.{Event}
use Rattle.mq_core.specs.Event.Event.{Arrive, Finish}
use Rattle.mq_core.specs.Handling.{latest, quiet}
use Rattle.mq_core.specs.Late.{Late}
use Rattle.mq_core.specs.Local.{Local, empty}
use Rattle.mq_core.specs.Machine.{Emission, Reaction, Release, Visit}
use Rattle.mq_core.specs.OnceOut.{founds_of}
use Rattle.mq_core.specs.Ranges.{is_within}
use Rattle.mq_core.specs.Tallies.{emission_at}
use Rattle.mq_core.specs.declared.model.Fate.{Fate}
use Rattle.mq_core.specs.declared.model.Fate.TheVariants.{Departs}
use Rattle.mq_core.specs.declared.model.Stream.{Stream}

-- the position let out by each of the first `outputs` outputs, in order
abbrev pub copies : ℕ → ℕ → List Release
copies zero position = []
copies (suc outputs) position = copies outputs position ++ record { out = outputs; position = position } ∷ []

-- a fork lets each job out by each output when it comes
abbrev pub fork_on : ℕ → List Visit → Local → Event → Reaction Local
fork_on outputs visits local (Arrive time node port job) = record { local = local; releases = copies outputs (latest visits); services = [] }
fork_on outputs visits local (Finish time node server position) = quiet local

-- what a visit at this position lets out, by each of the first `outputs` outputs
abbrev pub copied : ℕ → ℕ → Visit → List Emission
copied zero position visit = []
copied (suc outputs) position visit = copied outputs position visit ++ record { out = outputs; position = position; job = visit.job; time = visit.arrive } ∷ []

-- what these visits let out, the first of them at this position
abbrev pub copied_from : ℕ → ℕ → List Visit → List Emission
copied_from outputs position [] = []
copied_from outputs position (visit ∷ visits) = copied outputs position visit ++ copied_from outputs (suc position) visits

-- the fates of the arrivals: each departs when it comes
abbrev pub fork_fates : Came → List Fate
fork_fates came = map (λ time. Departs time) came.arrive

-- what leaves by an output: all arrivals, in order, if the fork has that output
abbrev pub copies_by : Bool → Came → Stream
copies_by true came = record { job = came.job; time = came.arrive }
copies_by false came = record { job = []; time = [] }

-- copies each job to this many outputs
abbrev pub fork : ℕ → Behaviour
fork outputs =
    record {
      starts = false;
      opening = empty;
      on = λ rows ports visits local now event. fork_on outputs visits local event;
      jobs = λ visits local. 0;
      working = λ local. 0;
      holds = false;
      servers = 0;
      outputs = outputs;
      ports = λ inputs. is_within 1 8 inputs;
      version = 2;
      sound = λ columns. is_within 2 4 outputs;
      mentioned = [];
      asked = λ rows job. Unit {0};
      bare = λ rows job. 0;
      service = λ rows job. 0;
      fate = λ m. Departs m.time;
      fates = λ rows came. fork_fates came;
      outs = λ rows came. [];
      flow = λ rows ports visits. copied_from outputs 0 visits;
      order = ByPosition;
      copies = outputs;
      exit = λ s position. emission_at s.emitted position;
      there = λ time position m. nat_lt time m.time;
      keeps = false;
      once = false;
      founds = λ rows came. founds_of came.arrive (fork_fates came);
      stream = λ rows came out. copies_by (nat_lt out outputs) came;
    }

-- a fork schedules nothing
pub fork-late : (outputs : ℕ) (visits : List Visit) (local : Local) (now : ℕ) (event : Event) → Late now (fork_on outputs visits local event).services
fork-late outputs visits local now (Arrive t n q j) = tt
fork-late outputs visits local now (Finish t n q j) = tt
