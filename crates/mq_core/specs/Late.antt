-- Proofs that what a handler schedules ends no earlier than now, for the parts that handlers share.
use Rattle.std.proofs.Common.{ℕ, ◌≤◌, List, [], ◌∷◌, ◌++◌, arith}
use Rattle.std.specs.List.{AllByRecursion as Each}
use Rattle.mq_core.specs.Machine.{Visit, Service}
use Rattle.mq_core.specs.Handling.{begins_at, begins_alone, queues_up, front_begins, front_leaves}
use Rattle.mq_core.specs.declared.model.Demand.{Demand}
use Rattle.mq_core.specs.declared.model.Rows.{Rows}
use Rattle.mq_core.specs.Local.{Local}

-- none of these services ends before now
abbrev pub Late : ℕ → List Service → Type 0
Late now services = Each (λ (s : Service). now ≤ s.time) services

-- if no service of two lists ends before now, none of both together does
pub both-late : (now : ℕ) (services more : List Service) → Late now services → Late now more → Late now (services ++ more)
both-late now [] more h k = k
both-late now (s ∷ services) more h k = (h.0, both-late now services more h.1 k)

-- a service that begins now doesn't end before now
pub begins_at-late : (rows : Rows) (demand : Demand) (visits : List Visit) (now server : ℕ) (queue : List ℕ) → Late now (begins_at rows demand visits now server queue)
begins_at-late rows demand visits now server [] = tt
begins_at-late rows demand visits now server (position ∷ queue) = (omega arith, tt)

-- a service that begins if the list was empty doesn't end before now
pub begins_alone-late : (rows : Rows) (demand : Demand) (visits : List Visit) (now server : ℕ) (queue : List ℕ) (position : ℕ) → Late now (begins_alone rows demand visits now server queue position)
begins_alone-late rows demand visits now server [] position = (omega arith, tt)
begins_alone-late rows demand visits now server (front ∷ queue) position = tt

-- the service of a position that queues up doesn't end before now
pub queues_up-late : (rows : Rows) (demand : Demand) (visits : List Visit) (local : Local) (now : ℕ) (queue : List ℕ) (position : ℕ) → Late now (queues_up rows demand visits local now queue position).services
queues_up-late rows demand visits local now [] position = (omega arith, tt)
queues_up-late rows demand visits local now (front ∷ queue) position = tt

-- the service of the front of a queue doesn't end before now
front_begins-late : (rows : Rows) (demand : Demand) (visits : List Visit) (now : ℕ) (queue : List ℕ) → Late now (front_begins rows demand visits now queue)
front_begins-late rows demand visits now [] = tt
front_begins-late rows demand visits now (front ∷ queue) = (omega arith, tt)

-- the service that begins when the front leaves doesn't end before now
pub front_leaves-late : (rows : Rows) (demand : Demand) (visits : List Visit) (local : Local) (now : ℕ) (queue : List ℕ) → Late now (front_leaves rows demand visits local now queue).services
front_leaves-late rows demand visits local now [] = tt
front_leaves-late rows demand visits local now (front ∷ queue) = front_begins-late rows demand visits now queue
