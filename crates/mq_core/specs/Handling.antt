-- The parts that the handlers of several kinds share.
use Rattle.std.specs.Prelude.{ℕ, ◌+◌, ◌-◌, List, [], ◌∷◌, ◌++◌, length, Option, Some, None, slice_get, slice_index}
use Rattle.mq_core.specs.Machine.{Visit, Service, Reaction}
use Rattle.mq_core.specs.Local.{Local}
use Rattle.mq_core.specs.declared.model.Demand.{Demand}
use Rattle.mq_core.specs.declared.model.Demand.TheVariants.{Column, Fixed}
use Rattle.mq_core.specs.declared.model.Rows.{Rows}
use Rattle.mq_core.specs.declared.model.Stage.{Stage}

-- the value of a job in a column, or 0 if there is no such column
abbrev pub column_value : Option (List ℕ) → ℕ → ℕ
column_value None job = 0
column_value (Some values) job = slice_index values job

-- the value of a job in column number `column`
abbrev pub value_of : Rows → ℕ → ℕ → ℕ
value_of rows column job = column_value (slice_get rows.demands column) job

-- the demand of a job
abbrev pub demand_of_job : Rows → Demand → ℕ → ℕ
demand_of_job rows (Column column) job = value_of rows column job
demand_of_job rows (Fixed demand) job = demand

-- the sum of a job's demands at all these stages
abbrev pub demand_of_stages : Rows → List Stage → ℕ → ℕ
demand_of_stages rows [] job = 0
demand_of_stages rows (stage ∷ stages) job = demand_of_job rows stage.demand job + demand_of_stages rows stages job

-- the demand of a visit, or 0 if there is none
abbrev pub demand_of_visit : Rows → Demand → Option Visit → ℕ
demand_of_visit rows demand None = 0
demand_of_visit rows demand (Some visit) = demand_of_job rows demand visit.job

-- the demand of the visit at a position
abbrev pub demand_at : Rows → Demand → List Visit → ℕ → ℕ
demand_at rows demand visits position = demand_of_visit rows demand (slice_get visits position)

-- the position of the latest visit
abbrev pub latest : List Visit → ℕ
latest visits = length visits - 1

-- nothing happens
abbrev pub quiet : Local → Reaction Local
quiet local = record { local = local; releases = []; services = [] }

-- a position goes on at once, by this output
abbrev pub passes_on : Local → ℕ → ℕ → Reaction Local
passes_on local out position = record { local = local; releases = record { out = out; position = position } ∷ []; services = [] }

-- the service of a position that begins now
abbrev pub begins : Rows → Demand → List Visit → ℕ → ℕ → Service
begins rows demand visits now position = record { server = 0; position = position; time = now + demand_at rows demand visits position }

-- the front of a queue begins its service
abbrev pub front_begins : Rows → Demand → List Visit → ℕ → List ℕ → List Service
front_begins rows demand visits now [] = []
front_begins rows demand visits now (position ∷ queue) = begins rows demand visits now position ∷ []

-- a position queues up, and its service begins if it is alone
abbrev pub queues_up : Rows → Demand → List Visit → Local → ℕ → List ℕ → ℕ → Reaction Local
queues_up rows demand visits local now [] position =
    record { local = record local { queue = position ∷ [] }; releases = []; services = begins rows demand visits now position ∷ [] }
queues_up rows demand visits local now (front ∷ queue) position =
    record { local = record local { queue = (front ∷ queue) ++ position ∷ [] }; releases = []; services = [] }

-- the front leaves, and the service of the next one begins
abbrev pub front_leaves : Rows → Demand → List Visit → Local → ℕ → List ℕ → Reaction Local
front_leaves rows demand visits local now [] = quiet local
front_leaves rows demand visits local now (front ∷ queue) =
    record {
      local = record local { queue = queue };
      releases = record { out = 0; position = front } ∷ [];
      services = front_begins rows demand visits now queue;
    }

-- 1 if the queue has a job, otherwise 0
abbrev pub one_if_some : List ℕ → ℕ
one_if_some [] = 0
one_if_some (front ∷ queue) = 1

-- the service of the front of a list, which begins now at a server
abbrev pub begins_at : Rows → Demand → List Visit → ℕ → ℕ → List ℕ → List Service
begins_at rows demand visits now server [] = []
begins_at rows demand visits now server (position ∷ queue) =
    record { server = server; position = position; time = now + demand_at rows demand visits position } ∷ []

-- the service of a position that queues up in this list, which begins now if the list was empty
abbrev pub begins_alone : Rows → Demand → List Visit → ℕ → ℕ → List ℕ → ℕ → List Service
begins_alone rows demand visits now server [] position = begins_at rows demand visits now server (position ∷ [])
begins_alone rows demand visits now server (front ∷ queue) position = []
