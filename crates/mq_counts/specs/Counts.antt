-- What a report says of nodes, from what came to them and what left.
use Rattle.std.specs.List.{AllByRecursion, list_any}
use Rattle.std.specs.Prelude.{◌≡◌, ◌==◌, ◌&&◌, ℕ, Bool, false, List, length, Some, slice_get}
use Rattle.mq_core.specs.Results.{visits_of}
use Rattle.mq_core.specs.Sequences.{sequence_exit, sequence_totals, streams_below}
use Rattle.mq_core.specs.Sound.{outputs_in}
use Rattle.mq_core.specs.StandardTable.{run_of}
use Rattle.mq_core.specs.declared.model.Input.{Input}
use Rattle.mq_core.specs.declared.model.Kind.{Kind}
use Rattle.mq_core.specs.declared.model.Node.{Node}
use Rattle.mq_core.specs.declared.model.Plan.{Plan}
use Rattle.mq_core.specs.declared.model.Rows.{Rows}
use Rattle.mq_core.specs.declared.model.Stream.{Stream}
use Rattle.mq_core.specs.declared.model.Visits.{Visits}
use Rattle.mq_crew.specs.Crew.{AreAll}
use Rattle.mq_counts.specs.declared.counts.Counts.{Counts}
use Rattle.mq_counts.specs.declared.counts.NodeSequences.{NodeSequences}
use Rattle.mq_counts.specs.declared.counts.NodeCount.{NodeCount}
use Rattle.mq_counts.specs.declared.totals.NodeVisits.{NodeVisits}
use Rattle.mq_counts.specs.Seen.{AreSeen, streams_in, visits_in}
use Rattle.mq_counts.specs.Totals.{IsVisited}
use Rattle.mq_stats.specs.Lasts.{last_event}
use Rattle.mq_stats.specs.Numbers.{AreLeaving, AreSmall, totals_from}
use Rattle.mq_stats.specs.Percentiles.{ArePercentiles, waits_at}
use Rattle.mq_stats.specs.declared.exits.Exit.{Exit}

-- whether some input reads this output of the node
abbrev pub is_read : List Node → ℕ → ℕ → Bool
is_read nodes v out = list_any (λ (node : Node). list_any (λ (i : Input). (i.node == v) && (i.out == out)) node.inputs) nodes

-- the numbers of a node can be computed from its visits and what left it
pub record AreCountable (rows : Rows) (sequences : NodeSequences) : Type 0 where
  pub visits : AreSeen rows sequences.kind.now sequences.visits
  pub streams : AllByRecursion (AreLeaving rows) (streams_in sequences.streams)

-- what leaves by each output that no input reads
pub record AreExits (nodes : List Node) (rows : Rows) (v : ℕ) (streams : List Stream) (exits : List Exit) : Type 0 where
  pub len : length exits ≡ length streams
  pub each : (out : ℕ) (stream : Stream) (exit : Exit) → slice_get streams out ≡ Some stream → slice_get exits out ≡ Some exit → is_read nodes v out ≡ false →
      (exit.count, exit.sojourn) ≡ sequence_exit rows stream

-- what a report says of a node with these visits and these streams
pub record IsCountOf (nodes : List Node) (rows : Rows) (form v : ℕ) (kind : Kind) (visits : Visits) (streams : List Stream) (count : NodeCount) : Type 0 where
  pub last : count.last ≡ last_event visits streams
  pub totals : totals_from count.totals ≡ sequence_totals rows kind visits count.last
  pub small : AreSmall count.totals
  pub tail : form ≡ 2 → ArePercentiles (waits_at rows kind visits) count.tail
  pub exits : AreExits nodes rows v streams count.exits

-- what it says of the node at an index
abbrev pub IsCountIn : List Node → Rows → ℕ → List NodeSequences → ℕ → NodeCount → Type 0
IsCountIn nodes rows form all i count =
    (sequences : NodeSequences) → slice_get all i ≡ Some sequences → IsCountOf nodes rows form sequences.number sequences.kind.now (visits_in sequences.visits) (streams_in sequences.streams) count

-- what it says of each node
abbrev pub AreCountsOf : List Node → Rows → ℕ → List NodeSequences → List NodeCount → Type 0
AreCountsOf nodes rows form all counts = AreAll (IsCountIn nodes rows form all) (length all) counts

-- the visits to a node, up to the last event there
pub record IsVisitsIn (rows : Rows) (sequences : NodeSequences) (its : NodeVisits) : Type 0 where
  pub table : its.rows.now ≡ rows
  pub kind : its.kind.now ≡ sequences.kind.now
  pub visits : visits_in its.visits ≡ visits_in sequences.visits
  pub last : its.last ≡ last_event (visits_in sequences.visits) (streams_in sequences.streams)

-- the visits to the first `count` of these nodes
pub record AreVisitsIn (rows : Rows) (all : List NodeSequences) (count : ℕ) (visits : List NodeVisits) : Type 0 where
  pub len : length visits ≡ count
  pub visited : AllByRecursion IsVisited visits
  pub each : (i : ℕ) (its : NodeVisits) → slice_get visits i ≡ Some its → (sequences : NodeSequences) → slice_get all i ≡ Some sequences → IsVisitsIn rows sequences its

-- What a report says of a node of a plan, from its visits and streams in the run.
abbrev pub IsCountAt : Plan → Rows → ℕ → ℕ → Node → NodeCount → Type 0
IsCountAt plan rows form v node count =
    IsCountOf plan.net.nodes rows form v node.kind (visits_of node.kind ((run_of plan rows).stations v)) (streams_below (run_of plan rows) v (outputs_in node.kind)) count

-- what it says of all nodes
pub record AreNodeCounts (plan : Plan) (rows : Rows) (form : ℕ) (counts : List NodeCount) : Type 0 where
  pub len : length counts ≡ length plan.net.nodes
  pub each : (v : ℕ) (node : Node) (count : NodeCount) → slice_get plan.net.nodes v ≡ Some node → slice_get counts v ≡ Some count → IsCountAt plan rows form v node count

-- what it says of all nodes, with the time of the last event of the run
pub record AreCounts (plan : Plan) (rows : Rows) (form : ℕ) (counts : Counts) : Type 0 where
  pub span : counts.span ≡ (run_of plan rows).clock
  pub nodes : AreNodeCounts plan rows form counts.nodes
