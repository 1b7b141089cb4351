-- Servers, tandems and fork-joins whose first blocks stay: their last visits are edited in place.
use Rattle.std.specs.Prelude.{◌≡◌, ◌*◌, ◌++◌, ◌≤◌, ℕ, List, Some, length, map, slice_get, take}
use Rattle.mq_alike.specs.Again.{alike}
use Rattle.mq_core.specs.Theorems.{IsReadFor}
use Rattle.mq_core.specs.declared.model.Fate.TheVariants.{Departs}
use Rattle.mq_core.specs.declared.model.Kind.{Kind}
use Rattle.mq_core.specs.declared.model.Node.{Node}
use Rattle.mq_core.specs.declared.model.Rows.{Rows}
use Rattle.mq_exits.specs.Loads.{IsLoaded}
use Rattle.mq_exits.specs.declared.load.Load.{Load}
use Rattle.mq_redo.specs.Kept.{coming_as}
use Rattle.mq_stations.specs.Leaving.{AreServed}
use Rattle.mq_kept.specs.KeptNodes.{IsKeptNode, coming_of}
use Rattle.mq_kept.specs.NodeRuns.{IsNodeKept}
use Rattle.mq_kept.specs.Formers.{with_checkpoints}
use Rattle.mq_kept.specs.Tails.{IsTailOf, departures_in, tail_before}
use Rattle.mq_kept.specs.declared.checkpoints.Checkpoints.{Checkpoints}
use Rattle.mq_kept.specs.declared.former.Former.TheVariants.{Tail}
use Rattle.mq_kept.specs.declared.former.NodeLists.{NodeLists}
use Rattle.mq_kept.specs.declared.nodes.NodeRun.{NodeRun}
use Rattle.mq_kept.specs.declared.tails.FormerTail.{FormerTail}

-- these lists are kept of a node of this kind from an earlier run, and its first `first` blocks stay; no fewer jobs come now
pub record IsTailStaying (load : Load) (kind : Kind) (first : ℕ) (lists : NodeLists) : Type 0 where
  pub node : Node
  pub there : slice_get load.plan.now.net.nodes load.number ≡ Some node
  pub is : node.kind ≡ kind
  pub read : IsReadFor load.plan.now.net load.rows.now
  pub loaded : IsLoaded load.plan.now load.rows.now load.number load.arrivals.now
  pub earlier : Rows
  pub was_read : IsReadFor load.plan.now.net earlier
  pub kept : IsNodeKept load.plan.now earlier load.block load.number lists
  pub same : first * load.block ≤ alike kind (coming_of earlier lists.visits) (coming_as load.rows.now load.arrivals.now)
  pub longer : length lists.visits.job ≤ length load.arrivals.now.job

-- after the blocks that stay, the node lets its jobs out at these times, in their order, by one output; and this is then kept of
-- its blocks
pub record IsTailServed (load : Load) (kind : Kind) (first : ℕ) (lists : NodeLists) (departs : List ℕ) (points : Checkpoints) : Type 0 where
  pub stays : IsTailStaying load kind first lists
  pub served : AreServed load.rows.now kind load.arrivals.now (take (first * load.block) (departures_in lists) ++ departs)
  pub kept : IsKeptNode kind (coming_as load.rows.now load.arrivals.now) load.block (take (first * load.block) lists.visits.fate ++ map (λ time. Departs time) departs) points

-- the node gives what the run has, with what is kept of it, and these numbers; its last visits can be restored
pub record IsTailRun (load : Load) (lists : NodeLists) (again all : ℕ) (gives : NodeRun) : Type 0 where
  pub tail : FormerTail
  pub points : Checkpoints
  pub former : gives.former ≡ Tail tail points
  pub kept : IsNodeKept load.plan.now load.rows.now load.block load.number gives.lists
  pub back : with_checkpoints points (tail_before tail gives.lists) ≡ lists
  pub fits : IsTailOf tail gives.lists
  pub again_is : gives.again ≡ again
  pub all_is : gives.all ≡ all
