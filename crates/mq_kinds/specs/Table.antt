-- The table of the kinds.
use Rattle.std.specs.Prelude.{◌≤◌, ℕ}
use Rattle.mq_core.specs.declared.model.Kind.{Kind}
use Rattle.mq_core.specs.declared.model.Kind.TheVariants.{Delay as TheDelay, Join as TheJoin}
use Rattle.mq_core.specs.declared.model.Rows.{Rows}
use Rattle.mq_core.specs.declared.model.Stream.{Stream}
use Rattle.mq_stations.specs.Leaving.{IsLoad}
use Rattle.mq_kinds.specs.ForkJoins.{IsForkJoin, IsForkJoinPiece, forkjoin_size, forkjoin_steps}
use Rattle.mq_kinds.specs.Lefts.{IsLeft}
use Rattle.mq_kinds.specs.Pieces.{IsOf, left_in}
use Rattle.mq_kinds.specs.Servers.{IsDelay, IsDelayPiece, IsServer, IsSplit, IsSplitPiece}
use Rattle.mq_kinds.specs.Tandems.{IsTandem, IsTandemPiece, tandem_steps}
use Rattle.mq_kinds.specs.declared.pieces.Piece.{Piece}
use Rattle.mq_kinds.specs.declared.table.Serving.{Serving}
use Rattle.mq_kinds.specs.declared.table.Serving.TheVariants.{Delay, ForkJoin, Server, Split, Tandem, Whole}

-- the kinds of which one piece gives all that leaves: not a delay, whose jobs have to be put in order, and not a join, whose
-- arrivals have ports
abbrev pub IsWhole : Kind → Type 0
IsWhole (TheDelay demand) = ⊥
IsWhole TheJoin = ⊥
IsWhole _ = Unit {0}

-- the kinds whose arrivals are one stream: all but the join
abbrev pub HasLoad : Kind → Type 0
HasLoad TheJoin = ⊥
HasLoad _ = Unit {0}

-- the state of a station fits what came to it
abbrev pub IsServing : Rows → Kind → Stream → Serving → Type 0
IsServing rows kind arrivals Whole = IsLoad rows kind arrivals × IsWhole kind
IsServing rows kind arrivals (Delay demand) = IsDelay rows kind arrivals demand
IsServing rows kind arrivals (Server demands) = IsServer rows kind arrivals demands
IsServing rows kind arrivals (Tandem tandem) = IsTandem rows kind arrivals tandem
IsServing rows kind arrivals (ForkJoin work) = IsForkJoin rows kind arrivals work
IsServing rows kind arrivals (Split split) = IsSplit rows kind arrivals split

-- its blocks have at least this many jobs, if it has any
abbrev pub HaveLeast : ℕ → Serving → Type 0
HaveLeast least Whole = Unit {0}
HaveLeast least (Delay demand) = Unit {0}
HaveLeast least (Server demands) = Unit {0}
HaveLeast least (Tandem tandem) = least ≤ tandem.blocks.block
HaveLeast least (ForkJoin work) = least ≤ work.blocks.block
HaveLeast least (Split split) = least ≤ split.blocks.block

-- the number of pieces of its step. A server has none: its single pass runs when the pieces of the others are made
abbrev pub serving_size : Serving → ℕ
serving_size Whole = 1
serving_size (Delay demand) = 1
serving_size (Server demands) = 0
serving_size (Tandem tandem) = tandem.blocks.blocks
serving_size (ForkJoin work) = forkjoin_size work
serving_size (Split split) = split.blocks.blocks

-- a piece of its step
abbrev pub IsServingPiece : Rows → Kind → Stream → Serving → ℕ → Piece → Type 0
IsServingPiece rows kind arrivals Whole b piece = IsOf left_in (λ _. IsLeft rows kind arrivals) b piece
IsServingPiece rows kind arrivals (Delay demand) b piece = IsDelayPiece rows kind arrivals piece
IsServingPiece rows kind arrivals (Server demands) b piece = ⊥
IsServingPiece rows kind arrivals (Tandem tandem) b piece = IsTandemPiece arrivals tandem b piece
IsServingPiece rows kind arrivals (ForkJoin work) b piece = IsForkJoinPiece arrivals.time work b piece
IsServingPiece rows kind arrivals (Split split) b piece = IsSplitPiece rows arrivals split b piece

-- the number of further steps, at most
abbrev pub serving_steps : Serving → ℕ
serving_steps Whole = 0
serving_steps (Delay demand) = 0
serving_steps (Server demands) = 0
serving_steps (Tandem tandem) = tandem_steps tandem
serving_steps (ForkJoin work) = forkjoin_steps work
serving_steps (Split split) = 0
