-- What comes to a node, in sequences alone.
use Rattle.std.specs.Prelude.{◌≡◌, ◌<◌, ◌≤◌, ℕ, Contains, if◌then◌else◌, List, [], length, Option, Some, None, slice_get}
use Rattle.std.specs.List.{flat_map}
use Rattle.mq_core.specs.Sequences.{IsStream, rows_at}
use Rattle.mq_core.specs.Streams.{by_first, pairs_of}
use Rattle.mq_core.specs.Theorems.{IsReadFor}
use Rattle.mq_core.specs.Wiring.{is_source_kind}
use Rattle.mq_core.specs.declared.model.Input.{Input}
use Rattle.mq_core.specs.declared.model.Node.{Node}
use Rattle.mq_core.specs.declared.model.Rows.{Rows}
use Rattle.mq_core.specs.declared.model.Stream.{Stream}
use Rattle.mq_merge.specs.Borrowed.{stream_in}
use Rattle.mq_arrivals.specs.declared.nodes.Arrived.{Arrived}
use Rattle.mq_arrivals.specs.declared.nodes.Arriving.{Arriving}

-- times, each with its job
abbrev pub Pairs : Type 0
Pairs = List (ℕ × ℕ)

-- the items of the stream of an output, where a node has these streams
abbrev pub pairs_by : Option Stream → Pairs
pairs_by None = []
pairs_by (Some stream) = pairs_of stream

abbrev pub pairs_in : Option (List Stream) → ℕ → Pairs
pairs_in None out = []
pairs_in (Some streams) out = pairs_by (slice_get streams out)

-- what a port reads, where the nodes have these streams
abbrev pub pairs_read : List (List Stream) → Input → Pairs
pairs_read outputs input = pairs_in (slice_get outputs input.node) input.out

-- what comes to a node: the rows of a source, in file order, or what the ports of another node read, port after port
abbrev pub arriving : Rows → ℕ → Node → List (List Stream) → Pairs
arriving rows v node outputs =
    if is_source_kind node.kind then rows_at v 0 rows.source rows.time else flat_map (pairs_read outputs) node.inputs

-- an input reads a stream that is there
pub record IsThere (outputs : List (List Stream)) (input : Input) : Type 0 where
  pub node : input.node < length outputs
  pub out : (streams : List Stream) → slice_get outputs input.node ≡ Some streams → input.out < length streams

-- all of these are streams
abbrev pub AreOrdered : List (List Stream) → Type 0
AreOrdered outputs = (u out : ℕ) (streams : List Stream) (stream : Stream) → slice_get outputs u ≡ Some streams → slice_get streams out ≡ Some stream → IsStream stream

-- what comes to a node can be put in order: the node and what its ports read are there, and few jobs come
pub record CanCome (s : Arriving) (v : ℕ) : Type 0 where
  pub inside : v < length s.plan.now.net.nodes
  pub there : (node : Node) (port : ℕ) (input : Input) → slice_get s.plan.now.net.nodes v ≡ Some node → slice_get node.inputs port ≡ Some input → IsThere s.outputs.now input
  pub few : (node : Node) → slice_get s.plan.now.net.nodes v ≡ Some node → length (arriving s.rows.now v node s.outputs.now) ≤ 1048576

-- what comes to all of these nodes can be; they are few
pub record IsArriving (s : Arriving) : Type 0 where
  pub read : IsReadFor s.plan.now.net s.rows.now
  pub ordered : AreOrdered s.outputs.now
  pub can : (k v : ℕ) → slice_get s.ready.now k ≡ Some v → CanCome s v
  pub nodes : length s.ready.now ≤ 64
  pub block : 1 ≤ s.block

-- what came to one of these nodes is all that comes, by time
pub record HasArrived (s : Arriving) (arrived : Arrived) : Type 0 where
  pub ready : Contains s.ready.now arrived.number
  pub ordered : IsStream (stream_in arrived.arrivals)
  pub items : (node : Node) → slice_get s.plan.now.net.nodes arrived.number ≡ Some node →
      pairs_of (stream_in arrived.arrivals) ≡ by_first (arriving s.rows.now arrived.number node s.outputs.now)
