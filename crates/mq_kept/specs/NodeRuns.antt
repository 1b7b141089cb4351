-- What one node gives that is redone after a kept run.
use Rattle.std.specs.Borrow.{Bor}
use Rattle.std.specs.Prelude.{◌≡◌, ◌<◌, ◌^◌, ℕ, List, Option, Some, None, length, slice_get}
use Rattle.mq_alike.specs.Again.{Coming, again_of, blocks_of, worked_of}
use Rattle.mq_arrivals.specs.declared.nodes.Arriving.{Arriving}
use Rattle.mq_core.specs.Results.{refusal_of, stream_from}
use Rattle.mq_core.specs.SequenceLaws.{arrives_of, jobs_of}
use Rattle.mq_core.specs.Sequences.{IsRunOf}
use Rattle.mq_core.specs.StandardTable.{run_of}
use Rattle.mq_core.specs.Theorems.{IsReadFor}
use Rattle.mq_core.specs.declared.model.Input.{Input}
use Rattle.mq_core.specs.declared.model.Node.{Node}
use Rattle.mq_core.specs.declared.model.Plan.{Plan}
use Rattle.mq_core.specs.declared.model.Rows.{Rows}
use Rattle.mq_core.specs.declared.model.Run.{Run}
use Rattle.mq_edits.specs.Former.{IsFormerOf, rows_before}
use Rattle.mq_edits.specs.declared.former.FormerRows.{FormerRows}
use Rattle.mq_engine.specs.Progress.{AreEarly}
use Rattle.mq_engine.specs.declared.fault.RunFault.{RunFault}
use Rattle.mq_engine.specs.declared.fault.RunFault.TheVariants.{Memory, Over, Past}
use Rattle.mq_exits.specs.Results.{IsWorkedOut}
use Rattle.mq_exits.specs.declared.load.Held.{Held}
use Rattle.mq_exits.specs.declared.working.Ending.{Ending}
use Rattle.mq_exits.specs.declared.working.Ending.TheVariants.{OnTime, TooLate, TooMany}
use Rattle.mq_merge.specs.Borrowed.{stream_in}
use Rattle.mq_redo.specs.Kept.{coming_as}
use Rattle.mq_kept.specs.Formers.{AreNodes, FitsIn, HasLists, lists_before, no_lists}
use Rattle.mq_kept.specs.KeptNodes.{AreCheckpoints, IsKeptNode, IsStayingNode, coming_of}
use Rattle.mq_kept.specs.declared.checkpoints.Checkpoints.{Checkpoints}
use Rattle.mq_kept.specs.declared.stations.Stays.{Stays}
use Rattle.mq_kept.specs.declared.former.Former.{Former}
use Rattle.mq_kept.specs.declared.former.Former.TheVariants.{Same}
use Rattle.mq_kept.specs.declared.former.NodeLists.{NodeLists}
use Rattle.mq_kept.specs.declared.former.Nodes.{Nodes}
use Rattle.mq_kept.specs.declared.nodes.NodeRun.{NodeRun}

-- the run of a plan over rows that were read for it, which isn't refused, with what is kept of its nodes; no stream has a time
-- after 2^60
pub record AreKept (plan : Plan) (rows : Rows) (block : ℕ) (run : Run) (points : List Checkpoints) : Type 0 where
  pub read : IsReadFor plan.net rows
  pub is_run : IsRunOf plan rows run
  pub fine : refusal_of plan rows ≡ None
  pub early : AreEarly run.outputs
  pub checkpoints : AreCheckpoints plan.net.nodes rows block run.visits points

-- what is kept of a node in the run of a plan over rows: what the run has, and what is kept of its blocks
pub record IsNodeKept (plan : Plan) (rows : Rows) (block v : ℕ) (lists : NodeLists) : Type 0 where
  pub known : IsWorkedOut plan rows (record { number = v; ending = OnTime lists.visits lists.streams })
  pub checkpoints : (node : Node) → slice_get plan.net.nodes v ≡ Some node → IsKeptNode node.kind (coming_of rows lists.visits) block lists.visits.fate lists.checkpoints

-- the rows of the kept run, if one is kept
abbrev pub earlier_rows : Rows → Option (Bor FormerRows) → Option Rows
earlier_rows rows None = None
earlier_rows rows (Some former) = Some (rows_before former.now rows)

-- the former rows have room in the rows, if a run is kept
abbrev pub RowsFit : Rows → Option (Bor FormerRows) → Type 0
RowsFit rows None = Unit {0}
RowsFit rows (Some former) = IsFormerOf former.now rows

-- what is kept of a node before it is computed: nothing before the first run
abbrev pub IsNodeBefore : Plan → Option Rows → ℕ → ℕ → NodeLists → Type 0
IsNodeBefore plan None block v lists = lists ≡ no_lists
IsNodeBefore plan (Some old) block v lists = IsReadFor plan.net old × IsNodeKept plan old block v lists

-- what is kept of all nodes before the first is computed; no stream has a time after 2^60
pub record AreNodesBefore (plan : Plan) (old : Option Rows) (block : ℕ) (nodes : Nodes) : Type 0 where
  pub count : AreNodes (length plan.net.nodes) nodes
  pub each : (v : ℕ) (lists : NodeLists) → HasLists nodes v lists → IsNodeBefore plan old block v lists
  pub early : AreEarly nodes.outputs.items

-- what came to a node of which this is kept, in the kept run: nothing if no run is kept
abbrev pub kept_rows : Rows → Option Rows → Rows
kept_rows rows None = rows
kept_rows rows (Some old) = old

abbrev pub came_before : Rows → Option Rows → NodeLists → Coming
came_before rows old lists = coming_of (kept_rows rows old) lists.visits

-- the same leaves a node in both runs
abbrev pub HasStayed : Plan → Option Rows → Rows → ℕ → Type 0
HasStayed plan None rows v = ⊥
HasStayed plan (Some old) rows v = (out : ℕ) → stream_from ((run_of plan old).stations v) out ≡ stream_from ((run_of plan rows).stations v) out

-- of the nodes that a node reads, those marked as unchanged sent the same before
abbrev pub HaveStayed : Plan → Option Rows → Rows → List Former → ℕ → Type 0
HaveStayed plan old rows formers v =
    (node : Node) (port : ℕ) (input : Input) → slice_get plan.net.nodes v ≡ Some node → slice_get node.inputs port ≡ Some input → slice_get formers input.node ≡ Some Same → HasStayed plan old rows input.node

-- what comes to a node in the run of a plan over rows
abbrev pub coming_to : Plan → Rows → ℕ → Coming
coming_to plan rows v = record {
  rows = rows;
  job = jobs_of ((run_of plan rows).stations v).visits;
  arrive = arrives_of ((run_of plan rows).stations v).visits;
}

-- the number of blocks of a node, to which `old` came, that are redone; the number of these that are worked; and the number of
-- all its blocks
abbrev pub again_behind : Arriving → Coming → ℕ → ℕ
again_behind s old v = again_of s.block (slice_get s.plan.now.net.nodes v) old (coming_to s.plan.now s.rows.now v)

abbrev pub worked_behind : Arriving → Coming → ℕ → ℕ
worked_behind s old v = worked_of s.block (slice_get s.plan.now.net.nodes v) old (coming_to s.plan.now s.rows.now v)

abbrev pub blocks_at : Arriving → ℕ → ℕ
blocks_at s v = blocks_of s.block (slice_get s.plan.now.net.nodes v) (coming_to s.plan.now s.rows.now v)

-- a node gives what the run has, with what is kept of it, and its two numbers; it can be restored to what was kept; and if it is
-- marked as unchanged, the same leaves it
pub record IsNodeRun (s : Arriving) (old : Option Rows) (lists : NodeLists) (v : ℕ) (gives : NodeRun) : Type 0 where
  pub kept : IsNodeKept s.plan.now s.rows.now s.block v gives.lists
  pub back : lists_before gives.former gives.lists ≡ lists
  pub fits : FitsIn gives.former gives.lists
  pub stayed : gives.former ≡ Same → HasStayed s.plan.now old s.rows.now v
  pub again : gives.again ≡ again_behind s (came_before s.rows.now old lists) v
  pub all : gives.all ≡ blocks_at s v
  pub again_few : gives.again < 2 ^ 32
  pub all_few : gives.all < 2 ^ 32

-- why a node gives nothing: it has too many visits, or one that departs after the bound, or memory ran out
abbrev pub IsFaultAt : Plan → Rows → ℕ → RunFault → Type 0
IsFaultAt plan rows v (Over fault) = IsWorkedOut plan rows (record { number = v; ending = TooMany fault })
IsFaultAt plan rows v (Past fault) = IsWorkedOut plan rows (record { number = v; ending = TooLate fault })
IsFaultAt plan rows v Memory = Unit {0}

-- a node ended with this fault
abbrev pub IsFaultOf : Ending → RunFault → Type 0
IsFaultOf ending (Over fault) = ending ≡ TooMany fault
IsFaultOf ending (Past fault) = ending ≡ TooLate fault
IsFaultOf ending Memory = ⊥

-- these blocks of a node stay, to which `old` came in some run
abbrev pub IsStayingAt : Held → Stays → Type 0
IsStayingAt held stays =
    (node : Node) → slice_get held.plan.now.net.nodes held.number ≡ Some node →
    (old : Coming) × IsStayingNode node.kind old (coming_as held.rows.now (stream_in held.arrivals)) held.block stays
