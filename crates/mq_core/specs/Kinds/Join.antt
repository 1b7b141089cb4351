-- A join, as one value: it puts together what comes by all its ports, job by job.
use Rattle.std.specs.List.{list_any, zip}
use Rattle.std.specs.Prelude.{Bool, List, None, Option, Some, [], count_by, false, filter, if◌then◌else◌, length, map, max, nat_le, slice_get, slice_index, suc, take, true, zero, ℕ, ◌&&◌, ◌++◌, ◌-◌, ◌==◌, ◌∷◌}
use Rattle.mq_core.specs.Behaviour.{Behaviour}
use Rattle.mq_core.specs.Came.{Came, came_of}
use Rattle.mq_core.specs.EmissionOrder.EmissionOrder.{ByPosition}
use Rattle.mq_core.specs.Event.{Event}
use Rattle.mq_core.specs.Event.Event.{Arrive, Finish}
use Rattle.mq_core.specs.Handling.{latest, passes_on, quiet}
use Rattle.mq_core.specs.Late.{Late}
use Rattle.mq_core.specs.Local.{Local, empty}
use Rattle.mq_core.specs.Machine.{Emission, Reaction, Visit}
use Rattle.mq_core.specs.Ranges.{is_within}
use Rattle.mq_core.specs.declared.model.Fate.{Fate}
use Rattle.mq_core.specs.declared.model.Fate.TheVariants.{Departs, Held}

-- The handler. An entry is a port and a position. First, whether a visit is of this job; then, whether an entry is of this job
-- and by this port.
abbrev pub has_job : ℕ → Option Visit → Bool
has_job job None = false
has_job job (Some visit) = visit.job == job

abbrev pub is_by : List Visit → ℕ → ℕ → ℕ × ℕ → Bool
is_by visits job port entry = has_job job (slice_get visits entry.1) && (entry.0 == port)

-- each of the first `ports` ports has an entry of this job
abbrev pub is_matched : List Visit → ℕ → ℕ → List (ℕ × ℕ) → Bool
is_matched visits job zero held = true
is_matched visits job (suc ports) held = list_any (is_by visits job ports) held && is_matched visits job ports held

-- the list without its first item that passes the test
abbrev pub without_first : {X : Type 0} → (X → Bool) → List X → List X
without_first test [] = []
without_first test (x ∷ xs) = if test x then xs else x ∷ without_first test xs

-- the entries without the first one of this job at each of the first `ports` ports
abbrev pub taken_out : List Visit → ℕ → ℕ → List (ℕ × ℕ) → List (ℕ × ℕ)
taken_out visits job zero held = held
taken_out visits job (suc ports) held = without_first (is_by visits job ports) (taken_out visits job ports held)

-- whether this position has an entry
abbrev pub has_entry : ℕ → List (ℕ × ℕ) → Bool
has_entry position held = list_any (λ (entry : ℕ × ℕ). entry.1 == position) held

-- a match that is whole is let out at the position of its last entry, which came just now
abbrev pub matches : List Visit → ℕ → ℕ → Local → List (ℕ × ℕ) → Bool → Reaction Local
matches visits job ports local held true = passes_on (record local { held = taken_out visits job ports held }) 0 (latest visits)
matches visits job ports local held false = quiet (record local { held = held })

-- a join adds an entry for each arrival; if each port then has one of its job, the first of each port is taken out
abbrev pub join_on : ℕ → List Visit → Local → Event → Reaction Local
join_on ports visits local (Arrive time node port job) =
    let held = local.held ++ (port, latest visits) ∷ [] in
    matches visits job ports local held (is_matched visits job ports held)
join_on ports visits local (Finish time node server position) = quiet local

-- The fates at a station. First, whether a visit is of this job and by this port.
abbrev pub is_of : ℕ → ℕ → Visit → Bool
is_of job port visit = (visit.job == job) && (visit.port == port)

-- the number of earlier visits of the same job by the same port
abbrev pub index_of : List Visit → ℕ → Visit → ℕ
index_of visits position visit = count_by (is_of visit.job visit.port) (take position visits)

-- the i-th visit of a job by each port leaves with the i-th emission of that job
abbrev pub joined_exit : List Visit → List Emission → ℕ → Option Visit → Option Emission
joined_exit visits emitted position None = None
joined_exit visits emitted position (Some visit) = slice_get (filter (λ (m : Emission). m.job == visit.job) emitted) (index_of visits position visit)

-- The recurrence. An item is a port and a job. First, this position if i is 0, otherwise the later one.
abbrev pub place_or : ℕ → ℕ → Option ℕ → Option ℕ
place_or zero position later = Some position
place_or (suc i) position later = later

-- whether an item is of this job and by this port
abbrev pub is_item : ℕ → ℕ → ℕ × ℕ → Bool
is_item job port item = (item.1 == job) && (item.0 == port)

-- the position of the i-th of these items, from 0, of this job by this port; the first item is at this position
abbrev pub place_from : ℕ → ℕ → ℕ → ℕ → List (ℕ × ℕ) → Option ℕ
place_from job port i position [] = None
place_from job port i position (item ∷ items) =
    if is_item job port item then place_or i position (place_from job port (i - 1) (suc position) items) else place_from job port i (suc position) items

-- the later of two positions, if there are both
abbrev pub later_place : Option ℕ → Option ℕ → Option ℕ
later_place None place = None
later_place (Some place) None = None
later_place (Some place) (Some other) = Some (max place other)

-- the i-th items of a job by the first `ports` ports form a match: the position of the last of them, if all are there
abbrev pub match_of : ℕ → ℕ → ℕ → List (ℕ × ℕ) → Option ℕ
match_of zero job i items = Some 0
match_of (suc ports) job i items = later_place (place_from job ports i 0 items) (match_of ports job i items)

-- for each of these items, which follow the items `before`, the position at which its match among all items is whole, if it ever
-- is
abbrev pub matches_from : ℕ → List (ℕ × ℕ) → List (ℕ × ℕ) → List (ℕ × ℕ) → List (Option ℕ)
matches_from ports all before [] = []
matches_from ports all before (item ∷ items) =
    match_of ports item.1 (count_by (is_item item.1 item.0) before) all ∷ matches_from ports all (before ++ item ∷ []) items

-- for each arrival the position at which its match is whole, if it ever is
abbrev pub matches_of : Came → List (Option ℕ)
matches_of came = matches_from came.ports (zip came.port came.job) [] (zip came.port came.job)

-- a visit departs with the last arrival of its match; if its match is never whole, it is held
abbrev pub fate_by_match : List ℕ → Option ℕ → Fate
fate_by_match arrive None = Held
fate_by_match arrive (Some place) = Departs (slice_index arrive place)

-- the fates of the arrivals
abbrev pub join_fates : Came → List Fate
join_fates came = map (fate_by_match came.arrive) (matches_of came)

-- a match that isn't whole before this position
abbrev pub is_open_at : ℕ → Option ℕ → Bool
is_open_at position None = true
is_open_at position (Some place) = nat_le position place

-- for each position, from this one on, how many earlier items (first those of `before`) have a match that isn't whole before it
abbrev pub opens_from : ℕ → List (Option ℕ) → List (Option ℕ) → List ℕ
opens_from position before [] = []
opens_from position before (one ∷ more) = count_by (is_open_at position) before ∷ opens_from (suc position) (before ++ one ∷ []) more

-- a match that is whole at this position
abbrev pub is_whole_at : ℕ → Option ℕ → Bool
is_whole_at position None = false
is_whole_at position (Some place) = place == position

-- the items at whose position a match is whole; the first is at this position
abbrev pub wholes_from : ℕ → List (Option ℕ) → List ℕ → List ℕ
wholes_from position [] items = []
wholes_from position (one ∷ more) [] = []
wholes_from position (one ∷ more) (item ∷ items) =
    if is_whole_at position one then item ∷ wholes_from (suc position) more items else wholes_from (suc position) more items

-- what matches let out, the first visit being at this position
abbrev pub matched_from : ℕ → List (Option ℕ) → List Visit → List Emission
matched_from position [] visits = []
matched_from position (one ∷ more) [] = []
matched_from position (one ∷ more) (visit ∷ visits) =
    if is_whole_at position one
    then record { out = 0; position = position; job = visit.job; time = visit.arrive } ∷ matched_from (suc position) more visits
    else matched_from (suc position) more visits

-- those of these items, one per arrival, that leave by an output
abbrev pub wholes_of : ℕ → Came → List ℕ → List ℕ
wholes_of zero came items = wholes_from 0 (matches_of came) items
wholes_of (suc out) came items = []

-- puts together what comes by all its ports: the i-th items of a job go on as one
abbrev pub join : Behaviour
join =
    record {
      starts = false;
      opening = empty;
      on = λ rows ports visits local now event. join_on ports visits local event;
      jobs = λ visits local. length local.held;
      working = λ local. 0;
      holds = true;
      servers = 0;
      outputs = 1;
      ports = λ inputs. is_within 2 8 inputs;
      version = 2;
      sound = λ columns. true;
      mentioned = [];
      asked = λ rows job. Unit {0};
      bare = λ rows job. 0;
      service = λ rows job. 0;
      fate = λ m. Departs m.time;
      fates = λ rows came. join_fates came;
      outs = λ rows came. [];
      flow = λ rows ports visits. matched_from 0 (matches_of (came_of ports visits)) visits;
      order = ByPosition;
      copies = 1;
      exit = λ s position. joined_exit s.visits s.emitted position (slice_get s.visits position);
      there = λ time position m. nat_le position m.position;
      keeps = true;
      once = false;
      founds = λ rows came. opens_from 0 [] (matches_of came);
      stream = λ rows came out. record { job = wholes_of out came came.job; time = wholes_of out came came.arrive };
    }

-- a match schedules nothing
matches-late : (visits : List Visit) (job ports : ℕ) (local : Local) (held : List (ℕ × ℕ)) (now : ℕ) (whole : Bool) → Late now (matches visits job ports local held whole).services
matches-late visits job ports local held now true = tt
matches-late visits job ports local held now false = tt

-- a join schedules nothing
pub join-late : (ports : ℕ) (visits : List Visit) (local : Local) (now : ℕ) (event : Event) → Late now (join_on ports visits local event).services
join-late ports visits local now (Arrive t n q j) = matches-late visits j ports local (local.held ++ (q, latest visits) ∷ []) now (is_matched visits j ports (local.held ++ (q, latest visits) ∷ []))
join-late ports visits local now (Finish t n q j) = tt
