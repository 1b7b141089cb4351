-- What sources let out in a run that is counted as it goes, and what is told of them.
use Rattle.std.specs.Prelude.{◌≡◌, ℕ, Contains, List, Some, slice_get, true}
use Rattle.mq_core.specs.Results.{Totals}
use Rattle.mq_core.specs.Wiring.{is_source_kind}
use Rattle.mq_core.specs.declared.model.Node.{Node}
use Rattle.mq_core.specs.declared.model.Plan.{Plan}
use Rattle.mq_arrivals.specs.declared.nodes.Arrived.{Arrived}
use Rattle.mq_arrivals.specs.declared.nodes.Arriving.{Arriving}
use Rattle.mq_engine.specs.Places.{IsArrivedAt}

-- a source, if it is there
abbrev pub IsSource : Plan → ℕ → Type 0
IsSource plan v = (node : Node) → slice_get plan.net.nodes v ≡ Some node → is_source_kind node.kind ≡ true

-- one of these nodes, a source
abbrev pub IsSourceAmong : Plan → List ℕ → ℕ → Type 0
IsSourceAmong plan ready v = Contains ready v × IsSource plan v

-- what came to one of these nodes, a source, can be worked on
abbrev pub IsSourceArrived : Arriving → Arrived → Type 0
IsSourceArrived s arrived = IsArrivedAt s arrived × IsSource s.plan.now arrived.number

-- the totals of so many visits that depart as they come
abbrev pub sent_totals : ℕ → Totals
sent_totals came = record { came = came; left = came; lost = 0; held = 0; wait = 0; longest = 0; busy = 0; area = 0; peak = 0 }
