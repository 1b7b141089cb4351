-- What follows from the type of a plan, and from rows that are read for a network.
use Rattle.std.specs.Prelude.{◌≡◌, ◌≤◌, ◌<◌, ℕ, false, IsTrue, List, length, take, Some, slice_get}
use Rattle.mq_core.specs.Asked.{HasDemands}
use Rattle.mq_core.specs.Results.{servers_in}
use Rattle.mq_core.specs.Sound.{is_sound_kind, outputs_in}
use Rattle.mq_core.specs.Theorems.{IsReadFor}
use Rattle.mq_core.specs.Wiring.{has, inputs_of}
use Rattle.mq_core.specs.declared.model.Demand.{Demand}
use Rattle.mq_core.specs.declared.model.Input.{Input}
use Rattle.mq_core.specs.declared.model.Kind.{Kind}
use Rattle.mq_core.specs.declared.model.Kind.TheVariants.{Trunk}
use Rattle.mq_core.specs.declared.model.Network.{Network}
use Rattle.mq_core.specs.declared.model.Node.{Node}
use Rattle.mq_core.specs.declared.model.Plan.{Plan}
use Rattle.mq_core.specs.declared.model.Rows.{Rows}

-- an input names a node of the network and one of its outputs
pub record NamesOutput (net : Network) (input : Input) : Type 0 where
  pub node : Node
  pub there : slice_get net.nodes input.node ≡ Some node
  pub out : input.out < outputs_in node.kind

-- a node in its limits, whose inputs are outputs of the network; unless it is a trunk group, it has at most 8 servers
pub record IsInLimits (net : Network) (node : Node) : Type 0 where
  pub kind : IsTrue (is_sound_kind (length net.columns) node.kind)
  pub outputs : outputs_in node.kind ≤ 8
  pub servers : servers_in node.kind ≤ 255
  pub few : ((servers : ℕ) (demand : Demand) → node.kind ≡ Trunk servers demand → ⊥) → servers_in node.kind ≤ 8
  pub name : length node.name ≤ 32
  pub ports : length node.inputs ≤ 8
  pub reads : (port : ℕ) (input : Input) → slice_get node.inputs port ≡ Some input → NamesOutput net input

-- each node of a plan is in its limits
abbrev pub NodesAreInLimits : Type 0
NodesAreInLimits = (plan : Plan) (v : ℕ) (node : Node) → slice_get plan.net.nodes v ≡ Some node → IsInLimits plan.net node

-- node v may come after the nodes `before`: it is a node and isn't one of them, while all that it reads are
pub record IsRankedBehind (nodes : List Node) (before : List ℕ) (v : ℕ) : Type 0 where
  pub inside : v < length nodes
  pub once : has before v ≡ false
  pub reads : (port : ℕ) (i : ℕ × ℕ) → slice_get (inputs_of nodes v) port ≡ Some i → IsTrue (has before i.0)

-- the order of a plan contains no node twice, and each node comes after all that it reads
abbrev pub OrdersRank : Type 0
OrdersRank =
    (plan : Plan) (rank v : ℕ) → slice_get plan.order rank ≡ Some v → IsRankedBehind plan.net.nodes (take rank plan.order) v

-- rows that are read for a network give what each of their jobs needs at a node whose kind is in its ranges
abbrev pub RowsTellDemands : Type 0
RowsTellDemands =
    (net : Network) (rows : Rows) → IsReadFor net rows → (job : ℕ) → job < length rows.source → (kind : Kind) → IsTrue (is_sound_kind (length net.columns) kind) →
    HasDemands rows kind job
