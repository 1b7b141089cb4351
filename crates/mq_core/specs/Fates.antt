-- How visits leave and fare: their fates, services and numbers; and the laws that say what the tallies of a run are.
use Rattle.std.specs.List.{AllByRecursion}
use Rattle.std.specs.Option.{option_map}
use Rattle.std.specs.Prelude.{Bool, IfSome, IsSome, List, None, Option, Some, [], false, is_none, length, slice_get, ℕ, ◌++◌, ◌<◌, ◌∷◌, ◌≡◌, ◌≤◌, ◌⊎◌}
use Rattle.mq_core.specs.KindTable.{behaviour_of}
use Rattle.mq_core.specs.Kinds.Join.{has_entry}
use Rattle.mq_core.specs.Local.{Local}
use Rattle.mq_core.specs.Machine.{Emission, State, Station, Visit, after, opened}
use Rattle.mq_core.specs.Run.{starts}
use Rattle.mq_core.specs.Standard.{standard_jobs}
use Rattle.mq_core.specs.StandardTable.{run_of, standard}
use Rattle.mq_core.specs.Tallies.{arrival_or, found_or, sojourns, staying, still_there, sum_below}
use Rattle.mq_core.specs.Theorems.{IsReadFor}
use Rattle.mq_core.specs.declared.model.Fate.{Fate}
use Rattle.mq_core.specs.declared.model.Fate.TheVariants.{Departs, Held, Lost}
use Rattle.mq_core.specs.declared.model.Kind.{Kind}
use Rattle.mq_core.specs.declared.model.Kind.TheVariants.{Join}
use Rattle.mq_core.specs.declared.model.Node.{Node}
use Rattle.mq_core.specs.declared.model.Plan.{Plan}
use Rattle.mq_core.specs.declared.model.Rows.{Rows}

-- what an emission says of a visit: it departs then, or it is lost if a loss station or a trunk group lets it out by output 1
abbrev pub fate_by : Kind → Emission → Fate
fate_by kind m = (behaviour_of kind).fate m

-- the emission with which the visit at a position leaves a node, once it has left
abbrev pub leaves_with : Kind → Station Local → ℕ → Option Emission
leaves_with kind s position = (behaviour_of kind).exit s position

-- the fate of the visit at a position, once it has left
abbrev pub fate_of : Kind → Station Local → ℕ → Option Fate
fate_of kind s position = option_map (fate_by kind) (leaves_with kind s position)

-- the times of those visits that depart, by position
abbrev pub departure_times : List Fate → List ℕ
departure_times [] = []
departure_times (Departs time ∷ fates) = time ∷ departure_times fates
departure_times (Lost ∷ fates) = departure_times fates
departure_times (Held ∷ fates) = departure_times fates

-- whether visits may stay in a node of this kind for good
abbrev pub keeps_visits : Kind → Bool
keeps_visits kind = (behaviour_of kind).keeps

-- Nothing is pending, and the number of jobs in each node is that of its visits that haven't left. At a node where visits don't
-- stay for good each visit has its fate, and no job is left.
pub record IsEnded (plan : Plan) (rows : Rows) (s : State Local) : Type 0 where
  pub nothing : s.pending ≡ []
  pub fates : (v : ℕ) (node : Node) (position : ℕ) → slice_get plan.net.nodes v ≡ Some node → keeps_visits node.kind ≡ false → position < length (s.stations v).visits → IsSome (fate_of node.kind (s.stations v) position)
  pub here : (v : ℕ) (node : Node) → slice_get plan.net.nodes v ≡ Some node → standard_jobs plan rows v (s.stations v).visits (s.stations v).local ≡ staying (s.stations v).visits (leaves_with node.kind (s.stations v))
  pub empty : (v : ℕ) → IfSome (slice_get plan.net.nodes v) (λ node. keeps_visits node.kind ≡ false) → standard_jobs plan rows v (s.stations v).visits (s.stations v).local ≡ 0

-- after the steps of a run over rows that are read for the network, the run has ended
abbrev pub RunEnds : Type 0
RunEnds = (plan : Plan) (rows : Rows) → IsReadFor plan.net rows → IsEnded plan rows (run_of plan rows)

-- At each moment of a run, the visits to a join that haven't left are those that have an entry in it. So a visit departs when its
-- entry is taken out, and is held if it never is.
abbrev pub HeldAreEntries : Type 0
HeldAreEntries =
    (plan : Plan) (rows : Rows) (count v position : ℕ) (node : Node) → slice_get plan.net.nodes v ≡ Some node → node.kind ≡ Join →
    let s = (after count (standard plan rows) (opened (standard plan rows) (starts rows))).stations v in
    position < length s.visits → has_entry position s.local.held ≡ is_none (leaves_with Join s position)

-- the area of each node is the sum of the sojourns of its visits by the end of the run
abbrev pub AreasAreSojourns : Type 0
AreasAreSojourns =
    (plan : Plan) (rows : Rows) → IsReadFor plan.net rows → (v : ℕ) (node : Node) → slice_get plan.net.nodes v ≡ Some node →
    let end = (run_of plan rows).stations v in
    end.area ≡ sojourns (run_of plan rows).clock end.visits (leaves_with node.kind end)

-- each visit found as many jobs as there were earlier visits still in the node
abbrev pub FoundsAreCounts : Type 0
FoundsAreCounts =
    (plan : Plan) (rows : Rows) → IsReadFor plan.net rows → (v : ℕ) (node : Node) → slice_get plan.net.nodes v ≡ Some node →
    let end = (run_of plan rows).stations v in
    (position : ℕ) → position < length end.visits →
    found_or 0 (slice_get end.visits position) ≡ still_there (behaviour_of node.kind).there (arrival_or 0 (slice_get end.visits position)) (leaves_with node.kind end) position

-- the service that a job needs: at a tandem the sum of its demands at all stages, at a fork-join that at all servers, and 0 at a
-- source, a split, a fork or a join
abbrev pub service_time : Rows → Kind → ℕ → ℕ
service_time rows kind job = (behaviour_of kind).service rows job

-- the service of a visit, or 0 if there is none
abbrev pub service_of : Rows → Kind → Option Visit → ℕ
service_of rows kind None = 0
service_of rows kind (Some visit) = service_time rows kind visit.job

-- this number, or 0 if the visit is lost
abbrev pub unless_lost : Option Fate → ℕ → ℕ
unless_lost None number = number
unless_lost (Some (Departs time)) number = number
unless_lost (Some Lost) number = 0
unless_lost (Some Held) number = number

-- the busy tally of each node is the sum of the services of the visits that aren't lost
abbrev pub BusyIsServices : Type 0
BusyIsServices =
    (plan : Plan) (rows : Rows) → IsReadFor plan.net rows → (v : ℕ) (node : Node) → slice_get plan.net.nodes v ≡ Some node →
    let end = (run_of plan rows).stations v in
    end.busy ≡ sum_below (length end.visits) (λ position. unless_lost (fate_of node.kind end position) (service_of rows node.kind (slice_get end.visits position)))

-- a visit to one of these nodes that comes at this time
pub record ComesAt (nodes : List Node) (s : State Local) (time : ℕ) : Type 0 where
  pub node : ℕ
  pub declared : Node
  pub there : slice_get nodes node ≡ Some declared
  pub position : ℕ
  pub inside : position < length (s.stations node).visits
  pub at : arrival_or 0 (slice_get (s.stations node).visits position) ≡ time

-- an emission of one of these nodes at this time
pub record LeavesAt (nodes : List Node) (s : State Local) (time : ℕ) : Type 0 where
  pub node : ℕ
  pub declared : Node
  pub there : slice_get nodes node ≡ Some declared
  pub before : List Emission
  pub emission : Emission
  pub after : List Emission
  pub inside : (s.stations node).emitted ≡ before ++ emission ∷ after
  pub at : emission.time ≡ time

-- the span is the greatest time of a visit: no visit comes or leaves later, and some visit comes or leaves then, unless the span
-- is 0
pub record IsLatest (plan : Plan) (s : State Local) (span : ℕ) : Type 0 where
  pub came : (v : ℕ) → v < length plan.net.nodes → AllByRecursion (λ (x : Visit). x.arrive ≤ span) (s.stations v).visits
  pub left : (v : ℕ) → v < length plan.net.nodes → AllByRecursion (λ (m : Emission). m.time ≤ span) (s.stations v).emitted
  pub reached : (span ≡ 0) ⊎ (ComesAt plan.net.nodes s span ⊎ LeavesAt plan.net.nodes s span)

-- the clock at the end is the span
abbrev pub SpanIsLatest : Type 0
SpanIsLatest =
    (plan : Plan) (rows : Rows) → IsReadFor plan.net rows →
    IsLatest plan (run_of plan rows) (run_of plan rows).clock
