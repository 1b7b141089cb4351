-- How far a run has come that is counted as it goes: what is told of the nodes that are done, and which streams are kept.
use Rattle.std.specs.List.{AllByRecursion, list_any}
use Rattle.std.specs.Prelude.{◌≡◌, ◌==◌, ◌∷◌, [], ℕ, Bool, false, Contains, List, length, Some, None, slice_get, slice_set, true}
use Rattle.mq_core.specs.Results.{visits_of}
use Rattle.mq_core.specs.Sequences.{sequence_refusal, streams_below}
use Rattle.mq_core.specs.Sound.{outputs_in}
use Rattle.mq_core.specs.StandardTable.{run_of}
use Rattle.mq_core.specs.declared.model.Input.{Input}
use Rattle.mq_core.specs.declared.model.Node.{Node}
use Rattle.mq_core.specs.declared.model.Plan.{Plan}
use Rattle.mq_core.specs.declared.model.Rows.{Rows}
use Rattle.mq_core.specs.declared.model.Stream.{Stream}
use Rattle.mq_core.specs.declared.model.Visits.{Visits}
use Rattle.mq_crew.specs.Crew.{AreAll}
use Rattle.mq_counts.specs.Counts.{AreCountable, IsCountAt}
use Rattle.mq_counts.specs.Seen.{streams_in, visits_in}
use Rattle.mq_counts.specs.declared.counts.NodeSequences.{NodeSequences}
use Rattle.mq_counts.specs.declared.counts.NodeCount.{NodeCount}
use Rattle.mq_exits.specs.Refusals.{over_told, past_told}
use Rattle.mq_exits.specs.declared.working.Ending.{Ending}
use Rattle.mq_exits.specs.declared.working.Ending.TheVariants.{OnTime, TooMany, TooLate}
use Rattle.mq_exits.specs.declared.turns.Given.{Given}
use Rattle.mq_exits.specs.declared.turns.Given.TheVariants.{Ended, InTurn as Turned}
use Rattle.mq_exits.specs.declared.working.NodeResult.{NodeResult}
use Rattle.mq_merge.specs.Borrowed.{stream_in}
use Rattle.mq_stations.specs.Leaving.{IsEarlyStream}
use Rattle.mq_stats.specs.InTurn.{KeepTurn}
use Rattle.mq_engine.specs.Progress.{AreEarly, is_waiting, stands_at}
use Rattle.mq_engine.specs.declared.progress.Stand.{Stand}
use Rattle.mq_engine.specs.declared.progress.Stand.TheVariants.{Waiting, Done, Crowded, Late}
use Rattle.mq_engine.specs.declared.told.ToldEnding.{ToldEnding}
use Rattle.mq_engine.specs.declared.told.ToldEnding.TheVariants.{Told, TooMany as ManyTold, TooLate as LateTold}
use Rattle.mq_engine.specs.declared.told.ToldNode.{ToldNode}

-- the visits of nobody
pub record IsNobody (visits : Visits) : Type 0 where
  pub jobs : visits.job ≡ []
  pub arrives : visits.arrive ≡ []
  pub founds : visits.found ≡ []
  pub fates : visits.fate ≡ []

-- what is told of a node is what the run has
abbrev pub TellsOf : Plan → Rows → ℕ → List NodeCount → ℕ → Node → Stand → Type 0
TellsOf plan rows form counts v node Waiting = Unit {0}
TellsOf plan rows form counts v node Done =
    ((count : NodeCount) → slice_get counts v ≡ Some count → IsCountAt plan rows form v node count)
    × (sequence_refusal plan.net.bound v (visits_of node.kind ((run_of plan rows).stations v)) ≡ None)
TellsOf plan rows form counts v node (Crowded fault) =
    sequence_refusal plan.net.bound v (visits_of node.kind ((run_of plan rows).stations v)) ≡ Some (over_told fault)
TellsOf plan rows form counts v node (Late fault) =
    sequence_refusal plan.net.bound v (visits_of node.kind ((run_of plan rows).stations v)) ≡ Some (past_told fault)

-- the streams of a node that is done, one of which a node that waits reads, are those of the run
abbrev pub AreKept : Plan → Rows → List (List Stream) → List Stand → Type 0
AreKept plan rows outputs stands =
    (v port : ℕ) (node named : Node) (input : Input) → slice_get plan.net.nodes v ≡ Some node → slice_get stands v ≡ Some Waiting → slice_get node.inputs port ≡ Some input →
    slice_get plan.net.nodes input.node ≡ Some named → slice_get stands input.node ≡ Some Done →
    slice_get outputs input.node ≡ Some (streams_below (run_of plan rows) input.node (outputs_in named.kind))

-- what is told and kept so far is what the run has
pub record IsCounting (plan : Plan) (rows : Rows) (form : ℕ) (counts : List NodeCount) (outputs : List (List Stream)) (stands : List Stand) : Type 0 where
  pub came : length counts ≡ length plan.net.nodes
  pub left : length outputs ≡ length plan.net.nodes
  pub stand : length stands ≡ length plan.net.nodes
  pub told : (v : ℕ) (node : Node) (at : Stand) → slice_get plan.net.nodes v ≡ Some node → slice_get stands v ≡ Some at → TellsOf plan rows form counts v node at
  pub kept : AreKept plan rows outputs stands
  pub early : AreEarly outputs

-- no node that waits reads an output of this one
abbrev pub IsUnread : List Node → List Stand → ℕ → Type 0
IsUnread nodes stands u =
    (v port : ℕ) (node : Node) (input : Input) → slice_get nodes v ≡ Some node → slice_get stands v ≡ Some Waiting → slice_get node.inputs port ≡ Some input → input.node ≡ u → ⊥

-- some input of these nodes reads an output of a node
abbrev pub reads_some : List Node → ℕ → Bool
reads_some nodes v = list_any (λ (node : Node). list_any (λ (i : Input). i.node == v) node.inputs) nodes

-- what is handed on of a station whose jobs leave in their order: nothing where no input reads it
abbrev pub handed_on : Bool → Stream → List Stream
handed_on true stream = stream ∷ []
handed_on false stream = []

-- an input of the network reads an output of a node
pub record IsReadBy (plan : Plan) (v : ℕ) : Type 0 where
  pub reader : ℕ
  pub port : ℕ
  pub node : Node
  pub input : Input
  pub there : slice_get plan.net.nodes reader ≡ Some node
  pub reads : slice_get node.inputs port ≡ Some input
  pub same : input.node ≡ v

-- how a node ends of which this is told is what the run has: its streams need not be there where no input reads one
abbrev pub IsToldAt : Plan → Rows → ℕ → ℕ → Node → ToldEnding → Type 0
IsToldAt plan rows form v node (Told streams count) =
    (IsReadBy plan v → streams ≡ streams_below (run_of plan rows) v (outputs_in node.kind))
    × ((out : ℕ) (stream : Stream) → slice_get streams out ≡ Some stream → IsEarlyStream stream)
    × (sequence_refusal plan.net.bound v (visits_of node.kind ((run_of plan rows).stations v)) ≡ None)
    × IsCountAt plan rows form v node count
IsToldAt plan rows form v node (ManyTold fault) =
    sequence_refusal plan.net.bound v (visits_of node.kind ((run_of plan rows).stations v)) ≡ Some (over_told fault)
IsToldAt plan rows form v node (LateTold fault) =
    sequence_refusal plan.net.bound v (visits_of node.kind ((run_of plan rows).stations v)) ≡ Some (past_told fault)

abbrev pub IsToldNode : Plan → Rows → ℕ → ToldNode → Type 0
IsToldNode plan rows form told = (node : Node) × (slice_get plan.net.nodes told.number ≡ Some node) × IsToldAt plan rows form told.number node told.ending

-- the same of one of these nodes
abbrev pub IsToldAmong : Plan → Rows → ℕ → List ℕ → ToldNode → Type 0
IsToldAmong plan rows form ready told = Contains ready told.number × IsToldNode plan rows form told

-- these are nodes that wait
abbrev pub AreUntold : List Stand → List ToldNode → Type 0
AreUntold stands told = AllByRecursion (λ one. stands_at is_waiting (slice_get stands one.number) ≡ true) told

-- what ended on time is told at its node and its streams are kept, and what ended with a fault leaves it there
abbrev pub IsToldEndPut : ℕ → ToldEnding → List NodeCount → List (List Stream) → List Stand → List NodeCount → List (List Stream) → List Stand → Type 0
IsToldEndPut v (Told streams count) counts outputs stands counts' outputs' stands' =
    (counts' ≡ slice_set counts v count) × (outputs' ≡ slice_set outputs v streams) × (stands' ≡ slice_set stands v Done)
IsToldEndPut v (ManyTold fault) counts outputs stands counts' outputs' stands' =
    (counts' ≡ counts) × (outputs' ≡ outputs) × (stands' ≡ slice_set stands v (Crowded fault))
IsToldEndPut v (LateTold fault) counts outputs stands counts' outputs' stands' =
    (counts' ≡ counts) × (outputs' ≡ outputs) × (stands' ≡ slice_set stands v (Late fault))

abbrev pub IsToldPut : ToldNode → List NodeCount → List (List Stream) → List Stand → List NodeCount → List (List Stream) → List Stand → Type 0
IsToldPut told counts outputs stands counts' outputs' stands' = IsToldEndPut told.number told.ending counts outputs stands counts' outputs' stands'

-- none overtakes another at a station whose jobs leave in their order
abbrev pub IsKeepingTurn : Given → Type 0
IsKeepingTurn (Ended node_result) = Unit {0}
IsKeepingTurn (Turned it) = KeepTurn (stream_in it.held.arrivals) it.departs

-- what is told of a node that ended on time is what the run has
abbrev pub IsToldOf : Plan → Rows → ℕ → ℕ → Ending → NodeCount → Type 0
IsToldOf plan rows form v (OnTime came left) count = (node : Node) → slice_get plan.net.nodes v ≡ Some node → IsCountAt plan rows form v node count
IsToldOf plan rows form v (TooMany fault) count = Unit {0}
IsToldOf plan rows form v (TooLate fault) count = Unit {0}

-- the same of the node at an index
abbrev pub IsToldIn : Plan → Rows → ℕ → List NodeResult → ℕ → NodeCount → Type 0
IsToldIn plan rows form results i count = (node_result : NodeResult) → slice_get results i ≡ Some node_result → IsToldOf plan rows form node_result.number node_result.ending count

-- of each node
abbrev pub AreTold : Plan → Rows → ℕ → List NodeResult → List NodeCount → Type 0
AreTold plan rows form results counts = AreAll (IsToldIn plan rows form results) (length results) counts

-- what came to a node that ended on time, and what left it
abbrev pub AreSequencesAt : Plan → ℕ → Ending → NodeSequences → Type 0
AreSequencesAt plan v (OnTime came left) sequences =
    (sequences.number ≡ v) × ((node : Node) → slice_get plan.net.nodes v ≡ Some node → sequences.kind.now ≡ node.kind) × (visits_in sequences.visits ≡ came) × (streams_in sequences.streams ≡ left)
AreSequencesAt plan v (TooMany fault) sequences = Unit {0}
AreSequencesAt plan v (TooLate fault) sequences = Unit {0}

abbrev pub AreResultSequences : Plan → NodeResult → NodeSequences → Type 0
AreResultSequences plan node_result sequences = AreSequencesAt plan node_result.number node_result.ending sequences

-- those of the first of these, as many as this
pub record AreWaveSequences (plan : Plan) (rows : Rows) (results : List NodeResult) (count : ℕ) (all : List NodeSequences) : Type 0 where
  pub len : length all ≡ count
  pub countable : AllByRecursion (AreCountable rows) all
  pub each : (i : ℕ) (sequences : NodeSequences) → slice_get all i ≡ Some sequences → (node_result : NodeResult) → slice_get results i ≡ Some node_result → AreResultSequences plan node_result sequences
