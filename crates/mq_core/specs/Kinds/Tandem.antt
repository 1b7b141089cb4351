-- A tandem, as one value: stages in series with finite buffers between them.
use Rattle.std.specs.List.{flat_map, list_all}
use Rattle.std.specs.Prelude.{Bool, List, [], false, length, map, nat_lt, true, ℕ, ◌&&◌, ◌∷◌, zero, suc, ◌+◌, if◌then◌else◌, ◌++◌}
use Rattle.mq_core.specs.Behaviour.{Behaviour}
use Rattle.mq_core.specs.Came.{Came}
use Rattle.mq_core.specs.Emitting.{leaving_from}
use Rattle.mq_core.specs.Handling.{demand_of_job, demand_of_stages, latest, quiet, begins_at, begins_alone}
use Rattle.mq_core.specs.EmissionOrder.EmissionOrder.{ByPosition}
use Rattle.mq_core.specs.Local.{empty, Local, Line}
use Rattle.mq_core.specs.Machine.{Emission, Visit, Release, Service, Reaction}
use Rattle.mq_core.specs.OnceOut.{founds_of, once_out}
use Rattle.mq_core.specs.Ranges.{columns_of_demand, is_sound_demand, is_within}
use Rattle.mq_core.specs.Recurrences.{tandem_departs}
use Rattle.mq_core.specs.Tallies.{emission_at}
use Rattle.mq_core.specs.Told.{AreTold}
use Rattle.mq_core.specs.declared.model.Fate.{Fate}
use Rattle.mq_core.specs.declared.model.Fate.TheVariants.{Departs}
use Rattle.mq_core.specs.declared.model.Rows.{Rows}
use Rattle.mq_core.specs.declared.model.Stage.{Stage}
use Rattle.mq_core.specs.Event.{Event}
use Rattle.mq_core.specs.Event.Event.{Arrive, Finish}
use Rattle.mq_core.specs.Late.{Late, begins_alone-late, begins_at-late, both-late}

-- the stages after a sweep, with what it let out and scheduled
pub record Swept : Type 0 where
  pub lines : List Line
  pub releases : List Release
  pub services : List Service

-- the next stage has room; after the last stage there is always room
abbrev pub has_room : List Stage → List Line → Bool
has_room [] lines = true
has_room (next ∷ stages) [] = false
has_room (next ∷ stages) (line ∷ lines) = nat_lt (length line.queue) next.places

-- a position enters the first of these lines
abbrev pub enters : Rows → List Visit → ℕ → ℕ → Stage → ℕ → Swept → List Line → Swept
enters rows visits now server stage position later [] = later
enters rows visits now server stage position later (line ∷ lines) =
    record later {
      lines = record line { queue = line.queue ++ position ∷ [] } ∷ lines;
      services = later.services ++ begins_alone rows stage.demand visits now server line.queue position;
    }

-- a position that is done leaves a stage: from the last it leaves the node, from any other it enters the next stage
abbrev pub leaves : Rows → List Visit → ℕ → ℕ → List Stage → ℕ → Swept → Swept
leaves rows visits now server [] position later =
    record later { releases = later.releases ++ record { out = 0; position = position } ∷ [] }
leaves rows visits now server (next ∷ stages) position later =
    enters rows visits now (server + 1) next position later later.lines

-- a stage, once the later ones are swept: a front that is done leaves if there is room, and the service of the next one begins
abbrev pub moves : Rows → List Visit → ℕ → ℕ → Stage → List Stage → Line → List ℕ → Swept → Swept
moves rows visits now server stage stages line [] later = record later { lines = line ∷ later.lines }
moves rows visits now server stage stages line (front ∷ queue) later =
    if line.done && has_room stages later.lines
    then (let gone = leaves rows visits now server stages front later in
    record gone {
      lines = record { queue = queue; done = false } ∷ gone.lines;
      services = gone.services ++ begins_at rows stage.demand visits now server queue;
    })
    else record later { lines = line ∷ later.lines }

-- a sweep from the last stage to the first; the first of these stages has the number `server`
abbrev pub sweep : Rows → List Visit → ℕ → ℕ → List Stage → List Line → Swept
sweep rows visits now server [] lines = record { lines = []; releases = []; services = [] }
sweep rows visits now server (stage ∷ stages) [] = record { lines = []; releases = []; services = [] }
sweep rows visits now server (stage ∷ stages) (line ∷ lines) =
    moves rows visits now server stage stages line line.queue (sweep rows visits now (server + 1) stages lines)

-- the stages with the front of this one marked as done
abbrev pub marked : ℕ → List Line → List Line
marked server [] = []
marked zero (line ∷ lines) = record line { done = true } ∷ lines
marked (suc server) (line ∷ lines) = line ∷ marked server lines

abbrev pub tandem_arrives : Rows → List Visit → Local → ℕ → List Stage → List Line → Reaction Local
tandem_arrives rows visits local now [] lines = quiet local
tandem_arrives rows visits local now (stage ∷ stages) [] = quiet local
tandem_arrives rows visits local now (stage ∷ stages) (line ∷ lines) =
    record {
      local = record local { lines = record line { queue = line.queue ++ latest visits ∷ [] } ∷ lines };
      releases = [];
      services = begins_alone rows stage.demand visits now 0 line.queue (latest visits);
    }

abbrev pub tandem_on : Rows → List Stage → List Visit → Local → ℕ → Event → Reaction Local
tandem_on rows stages visits local now (Arrive time node port job) = tandem_arrives rows visits local now stages local.lines
tandem_on rows stages visits local now (Finish time node server position) =
    let swept = sweep rows visits now 0 stages (marked server local.lines) in
    record { local = record local { lines = swept.lines }; releases = swept.releases; services = swept.services }

-- as many empty stages as there are stages
abbrev pub empty_lines : List Stage → List Line
empty_lines stages = map (λ _. record { queue = []; done = false }) stages

-- the number of jobs in these stages
abbrev pub held_in : List Line → ℕ
held_in lines = length (flat_map (λ (line : Line). line.queue) lines)

-- 1 if the front of a stage is in service, otherwise 0
abbrev pub one_if_serving : List ℕ → Bool → ℕ
one_if_serving [] done = 0
one_if_serving (front ∷ queue) done = if done then 0 else 1

-- the number of stages that are serving a job
abbrev pub serving_in : List Line → ℕ
serving_in [] = 0
serving_in (line ∷ lines) = one_if_serving line.queue line.done + serving_in lines

-- a stage with a number of places between two limits, and a sound demand
abbrev pub is_sound_stage : ℕ → ℕ → ℕ → Stage → Bool
is_sound_stage columns low high stage = is_within low high stage.places && is_sound_demand columns stage.demand

-- 2 to 4 stages: the first has 0 places, which nothing reads, and each other 1 to 4
abbrev pub are_sound_stages : ℕ → List Stage → Bool
are_sound_stages columns [] = false
are_sound_stages columns (stage ∷ stages) =
    is_sound_stage columns 0 0 stage && is_within 1 3 (length stages) && list_all (is_sound_stage columns 1 4) stages

-- when these jobs, which come at these times, leave a tandem; without stages they leave when they come
abbrev pub tandem_times : Rows → List Stage → List ℕ → List ℕ → List ℕ
tandem_times rows [] jobs arrives = arrives
tandem_times rows (stage ∷ stages) jobs arrives =
    tandem_departs (map (λ (s : Stage). s.places) (stage ∷ stages)) (map (λ _. []) (stage ∷ stages)) arrives
    (map (λ (s : Stage). map (demand_of_job rows s.demand) jobs) (stage ∷ stages))

-- what these visits let out at a tandem: each leaves when it leaves the last stage
abbrev pub tandem_flow : Rows → List Stage → List Visit → List Emission
tandem_flow rows stages visits =
    leaving_from 0 (tandem_times rows stages (map (λ (x : Visit). x.job) visits) (map (λ (x : Visit). x.arrive) visits)) visits

-- the fates of the arrivals
abbrev pub tandem_fates : Rows → List Stage → Came → List Fate
tandem_fates rows stages came = map (λ time. Departs time) (tandem_times rows stages came.job came.arrive)

-- the outputs by which they leave
abbrev pub tandem_outs : Rows → List Stage → Came → List ℕ
tandem_outs rows stages came = map (λ _. 0) came.job

-- stages in series
abbrev pub tandem : List Stage → Behaviour
tandem stages =
    record {
      starts = false;
      opening = record empty { lines = empty_lines stages };
      on = λ rows ports visits local now event. tandem_on rows stages visits local now event;
      jobs = λ visits local. held_in local.lines;
      working = λ local. serving_in local.lines;
      holds = true;
      servers = length stages;
      outputs = 1;
      ports = λ inputs. is_within 1 8 inputs;
      version = 1;
      sound = λ columns. are_sound_stages columns stages;
      mentioned = flat_map (λ (stage : Stage). columns_of_demand stage.demand) stages;
      asked = λ rows job. AreTold rows (map (λ (stage : Stage). stage.demand) stages) job;
      bare = λ rows job. demand_of_stages rows stages job;
      service = λ rows job. demand_of_stages rows stages job;
      fate = λ m. Departs m.time;
      fates = λ rows came. tandem_fates rows stages came;
      outs = λ rows came. tandem_outs rows stages came;
      flow = λ rows ports visits. tandem_flow rows stages visits;
      order = ByPosition;
      copies = 1;
      exit = λ s position. emission_at s.emitted position;
      there = λ time position m. nat_lt time m.time;
      keeps = false;
      once = true;
      founds = λ rows came. founds_of came.arrive (tandem_fates rows stages came);
      stream = λ rows came out. once_out ByPosition came (tandem_fates rows stages came) (tandem_outs rows stages came) out;
    }

-- a position that enters a stage
enters-late : (rows : Rows) (visits : List Visit) (now server : ℕ) (stage : Stage) (position : ℕ) (later : Swept) (lines : List Line) → Late now later.services → Late now (enters rows visits now server stage position later lines).services
enters-late rows visits now server stage position later [] h = h
enters-late rows visits now server stage position later (line ∷ lines) h = both-late now later.services (begins_alone rows stage.demand visits now server line.queue position) h (begins_alone-late rows stage.demand visits now server line.queue position)

-- a position that leaves a stage
leaves-late : (rows : Rows) (visits : List Visit) (now server : ℕ) (stages : List Stage) (position : ℕ) (later : Swept) → Late now later.services → Late now (leaves rows visits now server stages position later).services
leaves-late rows visits now server [] position later h = h
leaves-late rows visits now server (next ∷ stages) position later h = enters-late rows visits now (server + 1) next position later later.lines h

-- a stage of a sweep
moves-late : (rows : Rows) (visits : List Visit) (now server : ℕ) (stage : Stage) (stages : List Stage) (line : Line) (queue : List ℕ) (later : Swept) → Late now later.services → Late now (moves rows visits now server stage stages line queue later).services
moves-late rows visits now server stage stages line [] later h = h
moves-late rows visits now server stage stages line (front ∷ queue) later h = go (line.done && has_room stages later.lines)
  where
    go : (b : Bool) → Late now (if b then record (leaves rows visits now server stages front later) { lines = record { queue = queue; done = false } ∷ (leaves rows visits now server stages front later).lines; services = (leaves rows visits now server stages front later).services ++ begins_at rows stage.demand visits now server queue } else record later { lines = line ∷ later.lines }).services
    go true = both-late now (leaves rows visits now server stages front later).services (begins_at rows stage.demand visits now server queue) (leaves-late rows visits now server stages front later h) (begins_at-late rows stage.demand visits now server queue)
    go false = h

-- a sweep
sweep-late : (rows : Rows) (visits : List Visit) (now server : ℕ) (stages : List Stage) (lines : List Line) → Late now (sweep rows visits now server stages lines).services
sweep-late rows visits now server [] lines = tt
sweep-late rows visits now server (stage ∷ stages) [] = tt
sweep-late rows visits now server (stage ∷ stages) (line ∷ lines) = moves-late rows visits now server stage stages line line.queue (sweep rows visits now (server + 1) stages lines) (sweep-late rows visits now (server + 1) stages lines)

-- an arrival
arrives-late : (rows : Rows) (visits : List Visit) (local : Local) (now : ℕ) (stages : List Stage) (lines : List Line) → Late now (tandem_arrives rows visits local now stages lines).services
arrives-late rows visits local now [] lines = tt
arrives-late rows visits local now (stage ∷ stages) [] = tt
arrives-late rows visits local now (stage ∷ stages) (line ∷ lines) = begins_alone-late rows stage.demand visits now 0 line.queue (latest visits)

-- a tandem schedules nothing earlier than the clock
pub tandem-late : (rows : Rows) (stages : List Stage) (visits : List Visit) (local : Local) (now : ℕ) (event : Event) → Late now (tandem_on rows stages visits local now event).services
tandem-late rows stages visits local now (Arrive t n q j) = arrives-late rows visits local now stages local.lines
tandem-late rows stages visits local now (Finish t n server p) = sweep-late rows visits now 0 stages (marked server local.lines)
