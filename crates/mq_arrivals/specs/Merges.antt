-- What comes to a node by its ports, one after another, and the pieces of which it is put in order.
use Rattle.std.specs.Prelude.{◌≡◌, ◌+◌, ◌*◌, ◌≤◌, ◌&&◌, ◌++◌, ℕ, Bool, Contains, if◌then◌else◌, List, length, min, nat_lt, not, Some, slice_get, take}
use Rattle.std.specs.List.{flat_map}
use Rattle.mq_base.specs.Lists.{between}
use Rattle.mq_core.specs.Sequences.{IsStream, rows_at}
use Rattle.mq_core.specs.Streams.{by_first, pairs_of}
use Rattle.mq_core.specs.Wiring.{is_source_kind}
use Rattle.mq_core.specs.declared.model.Node.{Node}
use Rattle.mq_core.specs.declared.model.Rows.{Rows}
use Rattle.mq_core.specs.declared.model.Stream.{Stream}
use Rattle.mq_scan.specs.declared.blocks.Blocks.{Blocks}
use Rattle.mq_merge.specs.Borrowed.{stream_in}
use Rattle.mq_arrivals.specs.Arrivals.{Pairs, pairs_read}
use Rattle.mq_arrivals.specs.declared.nodes.Arriving.{Arriving}
use Rattle.mq_arrivals.specs.declared.merges.Coming.{Coming}
use Rattle.mq_arrivals.specs.declared.merges.Origin.{Origin}
use Rattle.mq_arrivals.specs.declared.merges.Origin.TheVariants.{Unsorted, Ports, Ended}

-- a node has a port with this number
abbrev pub has_port : Node → ℕ → Bool
has_port node port = not (is_source_kind node.kind) && nat_lt port (length node.inputs)

-- what comes to a node by its first ports: the rows of a source, in file order, or what these ports read, port after port
abbrev pub arriving_by : Rows → ℕ → Node → List (List Stream) → ℕ → Pairs
arriving_by rows v node outputs ports =
    if is_source_kind node.kind then rows_at v 0 rows.source rows.time else flat_map (pairs_read outputs) (take ports node.inputs)

-- a stream of these, in order of time
pub record ArePairsOf (pairs : Pairs) (stream : Stream) : Type 0 where
  pub ordered : IsStream stream
  pub items : pairs_of stream ≡ by_first pairs

-- a block of the stream of these
abbrev pub IsBlockOf : Pairs → Blocks → ℕ → Stream → Type 0
IsBlockOf pairs blocks b stream =
    IsStream stream × (pairs_of stream ≡ between (b * blocks.block) (min ((b + 1) * blocks.block) blocks.n) (by_first pairs))

-- two streams, all items of which are in these blocks
pub record IsPair (one other : Stream) (blocks : Blocks) : Type 0 where
  pub first : IsStream one
  pub second : IsStream other
  pub all : blocks.n ≡ length one.time + length other.time

-- what comes from an origin, before it is put in order
abbrev pub pairs_from : ℕ → Origin → Pairs
pairs_from v (Unsorted rows) = rows_at v 0 rows.now.source rows.now.time
pairs_from v (Ports before next blocks) = pairs_of (stream_in before) ++ pairs_of next.now
pairs_from v (Ended arrivals) = pairs_of (stream_in arrivals)

-- it can be put in order
abbrev pub IsReadyOrigin : Origin → Type 0
IsReadyOrigin (Unsorted rows) = (length rows.now.source ≡ length rows.now.time) × (length rows.now.time ≤ 1048576)
IsReadyOrigin (Ports before next blocks) = IsPair (stream_in before) next.now blocks
IsReadyOrigin (Ended arrivals) = IsStream (stream_in arrivals)

-- by so many pieces
abbrev pub pieces_of : Origin → ℕ
pieces_of (Unsorted rows) = 1
pieces_of (Ports before next blocks) = blocks.blocks
pieces_of (Ended arrivals) = 0

-- one of them: all rows of a source, or a block of the two streams merged
abbrev pub IsSortedPiece : ℕ → Origin → ℕ → Stream → Type 0
IsSortedPiece v (Unsorted rows) b stream = ArePairsOf (rows_at v 0 rows.now.source rows.now.time) stream
IsSortedPiece v (Ports before next blocks) b stream = IsBlockOf (pairs_of (stream_in before) ++ pairs_of next.now) blocks b stream
IsSortedPiece v (Ended arrivals) b stream = ⊥

-- what comes to one of these nodes by its first ports
pub record IsComing (s : Arriving) (ports : ℕ) (coming : Coming) : Type 0 where
  pub ready : Contains s.ready.now coming.number
  pub origin : IsReadyOrigin coming.origin
  pub few : length (pairs_from coming.number coming.origin) ≤ 1048576
  pub items : (node : Node) → slice_get s.plan.now.net.nodes coming.number ≡ Some node →
      by_first (pairs_from coming.number coming.origin) ≡ by_first (arriving_by s.rows.now coming.number node s.outputs.now ports)

-- the same, in order
pub record HasCome (s : Arriving) (v ports : ℕ) (stream : Stream) : Type 0 where
  pub ready : Contains s.ready.now v
  pub ordered : IsStream stream
  pub items : (node : Node) → slice_get s.plan.now.net.nodes v ≡ Some node → pairs_of stream ≡ by_first (arriving_by s.rows.now v node s.outputs.now ports)
