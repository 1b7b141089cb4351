-- A fork-join, as one value: branches side by side, each of servers in series.
use Rattle.std.specs.List.{flat_map, list_all}
use Rattle.std.specs.Prelude.{Bool, List, false, fold, length, map, max, nat_le, nat_lt, sum_by, true, ℕ, ◌&&◌, ◌-◌, ◌+◌, ◌==◌, min, if◌then◌else◌, [], ◌∷◌, ◌++◌, count_by}
use Rattle.mq_core.specs.Came.{Came}
use Rattle.mq_core.specs.EmissionOrder.EmissionOrder.{ByPosition}
use Rattle.mq_core.specs.Behaviour.{Behaviour}
use Rattle.mq_core.specs.Emitting.{leaving_from}
use Rattle.mq_core.specs.Handling.{demand_of_job, latest, begins_at, begins_alone}
use Rattle.mq_core.specs.Machine.{Emission, Visit, Service, Reaction}
use Rattle.mq_core.specs.OnceOut.{founds_of, once_out}
use Rattle.mq_core.specs.Ranges.{columns_of_demand, is_sound_demand, is_within}
use Rattle.mq_core.specs.Recurrences.{forkjoin_departs}
use Rattle.mq_core.specs.Tallies.{emission_at}
use Rattle.mq_core.specs.Told.{AreTold}
use Rattle.mq_core.specs.declared.model.Demand.{Demand}
use Rattle.mq_core.specs.declared.model.Fate.{Fate}
use Rattle.mq_core.specs.declared.model.Fate.TheVariants.{Departs}
use Rattle.mq_core.specs.declared.model.Rows.{Rows}
use Rattle.mq_core.specs.Event.{Event}
use Rattle.mq_core.specs.Event.Event.{Arrive, Finish}
use Rattle.mq_core.specs.Local.{Local, Branch, empty}
use Rattle.mq_core.specs.Late.{Late, both-late, begins_at-late, begins_alone-late}

-- servers in series after an event, with how many jobs went through and which services begin
pub record Moved : Type 0 where
  pub queues : List (List ℕ)
  pub through : ℕ
  pub services : List Service

-- a position enters the first of these servers, or goes through if there is none
abbrev pub goes_in : Rows → List Visit → ℕ → ℕ → List Demand → List (List ℕ) → ℕ → Moved
goes_in rows visits now server [] queues position = record { queues = queues; through = 1; services = [] }
goes_in rows visits now server (demand ∷ demands) [] position = record { queues = []; through = 0; services = [] }
goes_in rows visits now server (demand ∷ demands) (queue ∷ queues) position =
    record {
      queues = (queue ++ position ∷ []) ∷ queues;
      through = 0;
      services = begins_alone rows demand visits now server queue position;
    }

-- the front of a server goes on to the next, and the service of the position after it begins
abbrev pub goes_on : Rows → List Visit → ℕ → ℕ → Demand → List Demand → List ℕ → List (List ℕ) → Moved
goes_on rows visits now server demand demands [] queues = record { queues = [] ∷ queues; through = 0; services = [] }
goes_on rows visits now server demand demands (front ∷ queue) queues =
    let moved = goes_in rows visits now (server + 1) demands queues front in
    record moved { queues = queue ∷ moved.queues; services = begins_at rows demand visits now server queue ++ moved.services }

-- a finish at the server number `finished`; the first of these servers has the number `server`
abbrev pub finishes_at : Rows → List Visit → ℕ → ℕ → ℕ → List Demand → List (List ℕ) → Moved
finishes_at rows visits now finished server [] queues = record { queues = []; through = 0; services = [] }
finishes_at rows visits now finished server (demand ∷ demands) [] = record { queues = []; through = 0; services = [] }
finishes_at rows visits now finished server (demand ∷ demands) (queue ∷ queues) =
    if server == finished
    then goes_on rows visits now server demand demands queue queues
    else (let moved = finishes_at rows visits now finished (server + 1) demands queues in record moved { queues = queue ∷ moved.queues })

pub record ForkJoinMoved : Type 0 where
  pub branches : List Branch
  pub services : List Service

-- each branch after `part`, which gets the number of the branch's first server
abbrev pub each_branch : (ℕ → List Demand → List (List ℕ) → Moved) → ℕ → List (List Demand) → List Branch → ForkJoinMoved
each_branch part server [] branches = record { branches = []; services = [] }
each_branch part server (demands ∷ more) [] = record { branches = []; services = [] }
each_branch part server (demands ∷ more) (branch ∷ branches) =
    let moved = part server demands branch.queues in
    let rest = each_branch part (server + length demands) more branches in
    record {
      branches = record { queues = moved.queues; through = branch.through + moved.through } ∷ rest.branches;
      services = moved.services ++ rest.services;
    }

-- the number of jobs that went through every branch
abbrev pub least_through : List Branch → ℕ
least_through [] = 0
least_through (branch ∷ []) = branch.through
least_through (branch ∷ (next ∷ branches)) = min branch.through (least_through (next ∷ branches))

-- what a fork-join keeps at the start: no jobs at any server, and none that went through
abbrev pub forkjoin_opening : List (List Demand) → Local
forkjoin_opening branches = record empty { branches = map (λ demands. record { queues = map (λ _. []) demands; through = 0 }) branches }

-- whether a server has a job
abbrev pub is_busy : List ℕ → Bool
is_busy [] = false
is_busy (front ∷ queue) = true

-- the number of servers that have a job
abbrev pub busy_servers : List Branch → ℕ
busy_servers branches = count_by is_busy (flat_map (λ (branch : Branch). branch.queues) branches)

-- a fork-join: an arrival enters every branch; a finish moves a job on, and a position leaves once it is through all branches
abbrev pub forkjoin_on : Rows → List (List Demand) → List Visit → Local → ℕ → Event → Reaction Local
forkjoin_on rows demands visits local now (Arrive time node port job) =
    let moved_on = each_branch (λ server ds queues. goes_in rows visits now server ds queues (latest visits)) 0 demands local.branches in
    record { local = record local { branches = moved_on.branches }; releases = []; services = moved_on.services }
forkjoin_on rows demands visits local now (Finish time node server position) =
    let moved_on = each_branch (λ first ds queues. finishes_at rows visits now server first ds queues) 0 demands local.branches in
    let gone = least_through local.branches in
    record {
      local = record local { branches = moved_on.branches };
      releases = if nat_lt gone (least_through moved_on.branches) then record { out = 0; position = gone } ∷ [] else [];
      services = moved_on.services;
    }

-- 2 to 8 branches of 1 to 4 servers, at most 8 servers in all, and sound demands
abbrev pub are_sound_branches : ℕ → List (List Demand) → Bool
are_sound_branches columns branches =
    is_within 2 8 (length branches)
    && list_all (λ demands. is_within 1 4 (length demands) && list_all (is_sound_demand columns) demands) branches
    && nat_le (length (flat_map (λ demands. demands) branches)) 8

-- the demand of each of these jobs at each server of each branch
abbrev pub branch_demands : Rows → List (List Demand) → List ℕ → List (List (List ℕ))
branch_demands rows branches job = map (λ demands. map (λ demand. map (demand_of_job rows demand) job) demands) branches

-- what these visits let out at a fork-join: each leaves once it has gone through every branch
abbrev pub forkjoin_from : Rows → List (List Demand) → List Visit → List Emission
forkjoin_from rows branches visits =
    leaving_from 0 (forkjoin_departs (map (λ (visit : Visit). visit.arrive) visits) (branch_demands rows branches (map (λ (visit : Visit). visit.job) visits))) visits

-- the fates of the arrivals
abbrev pub forkjoin_fates : Rows → List (List Demand) → Came → List Fate
forkjoin_fates rows branches came = map (λ time. Departs time) (forkjoin_departs came.arrive (branch_demands rows branches came.job))

-- the outputs by which they leave
abbrev pub forkjoin_outs : Rows → List (List Demand) → Came → List ℕ
forkjoin_outs rows branches came = map (λ _. 0) came.job

-- branches side by side, each of servers in series
abbrev pub forkjoin : List (List Demand) → Behaviour
forkjoin branches =
    record {
      starts = false;
      opening = forkjoin_opening branches;
      on = λ rows ports visits local now event. forkjoin_on rows branches visits local now event;
      jobs = λ visits local. length visits - least_through local.branches;
      working = λ local. busy_servers local.branches;
      holds = true;
      servers = length (flat_map (λ demands. demands) branches);
      outputs = 1;
      ports = λ inputs. is_within 1 8 inputs;
      version = 1;
      sound = λ columns. are_sound_branches columns branches;
      mentioned = flat_map columns_of_demand (flat_map (λ demands. demands) branches);
      asked = λ rows job. AreTold rows (flat_map (λ demands. demands) branches) job;
      bare = λ rows job. fold max 0 (map (λ demands. sum_by (λ demand. demand_of_job rows demand job) demands) branches);
      service = λ rows job. sum_by (λ demand. demand_of_job rows demand job) (flat_map (λ demands. demands) branches);
      fate = λ m. Departs m.time;
      fates = λ rows came. forkjoin_fates rows branches came;
      outs = λ rows came. forkjoin_outs rows branches came;
      flow = λ rows ports visits. forkjoin_from rows branches visits;
      order = ByPosition;
      copies = 1;
      exit = λ s position. emission_at s.emitted position;
      there = λ time position m. nat_lt time m.time;
      keeps = false;
      once = true;
      founds = λ rows came. founds_of came.arrive (forkjoin_fates rows branches came);
      stream = λ rows came out. once_out ByPosition came (forkjoin_fates rows branches came) (forkjoin_outs rows branches came) out;
    }

-- a position that enters the first of these servers
goes_in-late : (rows : Rows) (visits : List Visit) (now server : ℕ) (demands : List Demand) (queues : List (List ℕ)) (position : ℕ) → Late now (goes_in rows visits now server demands queues position).services
goes_in-late rows visits now server [] queues position = tt
goes_in-late rows visits now server (demand ∷ demands) [] position = tt
goes_in-late rows visits now server (demand ∷ demands) (queue ∷ queues) position = begins_alone-late rows demand visits now server queue position

-- the front of a server that goes on
goes_on-late : (rows : Rows) (visits : List Visit) (now server : ℕ) (demand : Demand) (demands : List Demand) (queue : List ℕ) (queues : List (List ℕ)) → Late now (goes_on rows visits now server demand demands queue queues).services
goes_on-late rows visits now server demand demands [] queues = tt
goes_on-late rows visits now server demand demands (front ∷ queue) queues =
    both-late now (begins_at rows demand visits now server queue) _ (begins_at-late rows demand visits now server queue) (goes_in-late rows visits now (server + 1) demands queues front)

-- a finish at one of these servers
finishes_at-late : (rows : Rows) (visits : List Visit) (now finished server : ℕ) (demands : List Demand) (queues : List (List ℕ)) → Late now (finishes_at rows visits now finished server demands queues).services
finishes_at-late rows visits now finished server [] queues = tt
finishes_at-late rows visits now finished server (demand ∷ demands) [] = tt
finishes_at-late rows visits now finished server (demand ∷ demands) (queue ∷ queues) = go (server == finished) (finishes_at-late rows visits now finished (server + 1) demands queues)
  where
    go : (b : Bool) → Late now (finishes_at rows visits now finished (server + 1) demands queues).services → Late now (if b then goes_on rows visits now server demand demands queue queues else record (finishes_at rows visits now finished (server + 1) demands queues) { queues = queue ∷ (finishes_at rows visits now finished (server + 1) demands queues).queues }).services
    go true h = goes_on-late rows visits now server demand demands queue queues
    go false h = h

-- all branches
each_branch-late : (now : ℕ) (part : ℕ → List Demand → List (List ℕ) → Moved) (server : ℕ) (demands : List (List Demand)) (branches : List Branch) → ((first : ℕ) (ds : List Demand) (queues : List (List ℕ)) → Late now (part first ds queues).services) → Late now (each_branch part server demands branches).services
each_branch-late now part server [] branches h = tt
each_branch-late now part server (demands ∷ more) [] h = tt
each_branch-late now part server (demands ∷ more) (branch ∷ branches) h =
    both-late now (part server demands branch.queues).services _ (h server demands branch.queues) (each_branch-late now part (server + length demands) more branches h)

-- a fork-join schedules nothing earlier than the clock
pub forkjoin-late : (rows : Rows) (demands : List (List Demand)) (visits : List Visit) (local : Local) (now : ℕ) (event : Event) → Late now (forkjoin_on rows demands visits local now event).services
forkjoin-late rows demands visits local now (Arrive t n q j) = each_branch-late now (λ server ds queues. goes_in rows visits now server ds queues (latest visits)) 0 demands local.branches (λ first ds queues. goes_in-late rows visits now first ds queues (latest visits))
forkjoin-late rows demands visits local now (Finish t n server position) = each_branch-late now (λ first ds queues. finishes_at rows visits now server first ds queues) 0 demands local.branches (λ first ds queues. finishes_at-late rows visits now server first ds queues)
