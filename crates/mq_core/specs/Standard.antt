-- The standard handlers: what a node of a plan does, depending on its kind.
use Rattle.std.specs.Prelude.{List, None, Option, Some, length, slice_get, ℕ}
use Rattle.mq_core.specs.Event.{Event}
use Rattle.mq_core.specs.Handling.{quiet}
use Rattle.mq_core.specs.KindTable.{behaviour_of}
use Rattle.mq_core.specs.Local.{Local, empty}
use Rattle.mq_core.specs.Machine.{Reaction, Visit}
use Rattle.mq_core.specs.declared.model.Kind.{Kind}
use Rattle.mq_core.specs.declared.model.Node.{Node}
use Rattle.mq_core.specs.declared.model.Plan.{Plan}
use Rattle.mq_core.specs.declared.model.Rows.{Rows}

-- what a node of a kind with this many ports does at an event
abbrev pub kind_on : Rows → ℕ → Kind → List Visit → Local → ℕ → Event → Reaction Local
kind_on rows ports kind visits local now event = (behaviour_of kind).on rows ports visits local now event

-- what a node of each kind keeps at the start
abbrev pub kind_opening : Kind → Local
kind_opening kind = (behaviour_of kind).opening

-- the number of jobs in a node
abbrev pub jobs_in : Kind → List Visit → Local → ℕ
jobs_in kind visits local = (behaviour_of kind).jobs visits local

-- the number of its working servers
abbrev pub working_in : Kind → Local → ℕ
working_in kind local = (behaviour_of kind).working local

-- what a node does at an event; nothing if there is no node
abbrev pub node_on : Rows → Option Node → List Visit → Local → ℕ → Event → Reaction Local
node_on rows None visits local now event = quiet local
node_on rows (Some node) visits local now event = kind_on rows (length node.inputs) node.kind visits local now event

-- what a node keeps at the start; nothing if there is no node
abbrev pub node_opening : Option Node → Local
node_opening None = empty
node_opening (Some node) = kind_opening node.kind

-- the number of jobs in a node; 0 if there is no node
abbrev pub node_jobs : Option Node → List Visit → Local → ℕ
node_jobs None visits local = 0
node_jobs (Some node) visits local = jobs_in node.kind visits local

-- the number of working servers of a node; 0 if there is no node
abbrev pub node_working : Option Node → Local → ℕ
node_working None local = 0
node_working (Some node) local = working_in node.kind local

-- what a node of a plan keeps at the start
unfoldable pub standard_opening : Plan → ℕ → Local
standard_opening plan node = node_opening (slice_get plan.net.nodes node)

-- what a node of a plan does at an event
unfoldable pub standard_handle : Plan → Rows → ℕ → List Visit → Local → ℕ → Event → Reaction Local
standard_handle plan rows node visits local now event = node_on rows (slice_get plan.net.nodes node) visits local now event

-- the number of jobs in a node of a plan
unfoldable pub standard_jobs : Plan → Rows → ℕ → List Visit → Local → ℕ
standard_jobs plan rows node visits local = node_jobs (slice_get plan.net.nodes node) visits local

-- the number of working servers of a node of a plan
unfoldable pub standard_working : Plan → Rows → ℕ → List Visit → Local → ℕ
standard_working plan rows node visits local = node_working (slice_get plan.net.nodes node) local
