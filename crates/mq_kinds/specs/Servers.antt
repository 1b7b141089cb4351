-- The states of a server, a delay and a split.
use Rattle.std.specs.Prelude.{◌≡◌, ◌<◌, ◌≤◌, ℕ, List, IsSomeAnd, Some, length, map, slice_get, slice_index_or}
use Rattle.mq_core.specs.Handling.{demand_of_job}
use Rattle.mq_core.specs.Kinds.Split.{route_value}
use Rattle.mq_core.specs.declared.model.Demand.{Demand}
use Rattle.mq_core.specs.declared.model.Kind.{Kind}
use Rattle.mq_core.specs.declared.model.Kind.TheVariants.{Delay, Server, Split as TheSplit}
use Rattle.mq_core.specs.declared.model.Route.{Route}
use Rattle.mq_core.specs.declared.model.Rows.{Rows}
use Rattle.mq_core.specs.declared.model.Stream.{Stream}
use Rattle.mq_scan.specs.Blocks.{from_of, to_of}
use Rattle.mq_scan.specs.declared.blocks.Blocks.{Blocks}
use Rattle.mq_split.specs.Outs.{ArePieces, IsValued}
use Rattle.mq_stations.specs.Leaving.{AreDepartures, IsLoad}
use Rattle.mq_stations.specs.Scans.{AreFewBlocks}
use Rattle.mq_kinds.specs.Pieces.{IsOf, streams_in, times_in}
use Rattle.mq_kinds.specs.declared.pieces.Piece.{Piece}
use Rattle.mq_kinds.specs.declared.split.Split.{Split}

-- a server, with the demands of its jobs
pub record IsServer (rows : Rows) (kind : Kind) (arrivals : Stream) (demands : List ℕ) : Type 0 where
  pub demand : Demand
  pub is : kind ≡ Server demand
  pub load : IsLoad rows kind arrivals
  pub asked : demands ≡ map (demand_of_job rows demand) arrivals.job

-- a delay, by this demand
pub record IsDelay (rows : Rows) (kind : Kind) (arrivals : Stream) (demand : Demand) : Type 0 where
  pub is : kind ≡ Delay demand
  pub load : IsLoad rows kind arrivals

-- its piece: when all jobs depart
abbrev pub IsDelayPiece : Rows → Kind → Stream → Piece → Type 0
IsDelayPiece rows kind arrivals piece = IsSomeAnd (times_in piece) (AreDepartures rows kind arrivals)

-- a split, in few blocks of its arrivals
pub record IsSplit (rows : Rows) (kind : Kind) (arrivals : Stream) (split : Split) : Type 0 where
  pub is : kind ≡ TheSplit split.route.now
  pub load : IsLoad rows kind arrivals
  pub cut : AreFewBlocks (length arrivals.time) 16384 split.blocks

-- what leaves a block of a split whose jobs have these values: one stream per output, each with the jobs of the block that go there
abbrev pub AreSplitParts : Route → Stream → List ℕ → Blocks → ℕ → List Stream → Type 0
AreSplitParts route arrivals values blocks b streams = ArePieces route arrivals values (from_of blocks b) (to_of blocks b) streams

-- what leaves all its blocks, in their order
pub record AreSplitBlocks (route : Route) (arrivals : Stream) (values : List ℕ) (blocks : Blocks) (group : List (List Stream)) : Type 0 where
  pub valued : IsValued arrivals values
  pub few : length values ≤ 1048576
  pub all : blocks.n ≡ length values
  pub len : length group ≡ blocks.blocks
  pub each : (b : ℕ) (d : List Stream) → b < length group → AreSplitParts route arrivals values blocks b (slice_index_or group b d)

-- each block has a stream of this output, with few jobs
abbrev pub HaveParts : ℕ → List (List Stream) → Type 0
HaveParts out group =
    (b : ℕ) (streams : List Stream) → slice_get group b ≡ Some streams → (part : Stream) × (slice_get streams out ≡ Some part) × (length part.job ≤ 1048576)

-- a piece: what leaves a block, by each output
abbrev pub IsSplitPiece : Rows → Stream → Split → ℕ → Piece → Type 0
IsSplitPiece rows arrivals split b piece = IsOf streams_in (AreSplitParts split.route.now arrivals (map (route_value rows split.route.now) arrivals.job) split.blocks) b piece
