-- What is kept of a station that its jobs have left: the states, their pieces, and how a station ends.
-- A table's last row `_ = ⊥` gathers all that can't be: a function that gives something without a row of its own isn't proved.
use Rattle.std.specs.Prelude.{◌≡◌, ◌+◌, ◌*◌, ◌<◌, ℕ, List, [], ◌∷◌, length, map, min, Option, Some, None, slice_get}
use Rattle.mq_base.specs.Lists.{between}
use Rattle.mq_core.specs.Came.{came_in}
use Rattle.mq_core.specs.OnceOut.{founds_of}
use Rattle.mq_core.specs.Results.{Late as LateVisit, first_of}
use Rattle.mq_core.specs.Sequences.{sequence_fates, sequence_late_from}
use Rattle.mq_core.specs.declared.model.Fate.TheVariants.{Departs}
use Rattle.mq_core.specs.declared.model.Node.{Node}
use Rattle.mq_core.specs.declared.model.Plan.{Plan}
use Rattle.mq_core.specs.declared.model.Rows.{Rows}
use Rattle.mq_core.specs.declared.model.Stream.{Stream}
use Rattle.mq_scan.specs.declared.blocks.Blocks.{Blocks}
use Rattle.mq_stats.specs.Ahead.{IsAhead}
use Rattle.mq_stats.specs.InTurn.{KeepTurn}
use Rattle.mq_stations.specs.Leaving.{AreStreams}
use Rattle.mq_stations.specs.Scans.{AreFewBlocks}
use Rattle.mq_merge.specs.Borrowed.{stream_in}
use Rattle.mq_merge.specs.declared.arrivals.Arrivals.{Arrivals}
use Rattle.mq_merge.specs.declared.arrivals.Arrivals.TheVariants.{Merged, Read}
use Rattle.mq_kinds.specs.Lefts.{IsLeft, PassThrough}
use Rattle.mq_kinds.specs.Pieces.{IsOf, numbers_in}
use Rattle.mq_kinds.specs.declared.pieces.Left.{Left}
use Rattle.mq_kinds.specs.declared.pieces.Piece.{Piece}
use Rattle.mq_kinds.specs.declared.pieces.Piece.TheVariants.{Fared, Numbers, Streams, Times}
use Rattle.mq_exits.specs.Afters.{AreOnTime, AreSettledAt, IsFaring, IsServed}
use Rattle.mq_exits.specs.Results.{IsEnding, IsWorkedOut}
use Rattle.mq_exits.specs.declared.load.Held.{Held}
use Rattle.mq_exits.specs.declared.keeping.Emptied.{Emptied}
use Rattle.mq_exits.specs.declared.keeping.Emptied.TheVariants.{Ended, Keeping as Keeps}
use Rattle.mq_exits.specs.declared.keeping.End.{End}
use Rattle.mq_exits.specs.declared.keeping.End.TheVariants.{InTurn as Turned, Late, Lists}
use Rattle.mq_exits.specs.declared.keeping.Keep.{Keep}
use Rattle.mq_exits.specs.declared.keeping.Keep.TheVariants.{Numbers as KeepNumbers}
use Rattle.mq_exits.specs.declared.keeping.Keeping.{Keeping}
use Rattle.mq_exits.specs.declared.keeping.Keeping.TheVariants.{InTurn, Overtaking, Passing, Settled}
use Rattle.mq_exits.specs.declared.overtaking.Overtaken.{Overtaken}
use Rattle.mq_exits.specs.declared.turns.InTurn.{InTurn as TurnOf}
use Rattle.mq_exits.specs.declared.working.Ending.TheVariants.{OnTime, TooLate}
use Rattle.mq_exits.specs.Turns.{result_in_turn}

-- this leaves a station of the plan
abbrev pub IsLeftAt : Plan → Rows → ℕ → Stream → Left → Type 0
IsLeftAt plan rows v arrivals left = (node : Node) → slice_get plan.net.nodes v ≡ Some node → IsLeft rows node.kind arrivals left

-- the same of what a wave holds
abbrev pub IsLeftOf : Held → Left → Type 0
IsLeftOf held left = IsLeftAt held.plan.now held.rows.now held.number (stream_in held.arrivals) left

-- the first late visit to a station of the plan
abbrev pub IsFirstLate : Plan → Rows → ℕ → Stream → Option LateVisit → Type 0
IsFirstLate plan rows v arrivals first =
    (node : Node) → slice_get plan.net.nodes v ≡ Some node → first_of (sequence_late_from plan.net.bound v 0 (sequence_fates rows node.kind (came_in arrivals))) ≡ first

-- what each of these arrivals found, where they depart at these times
abbrev pub founds_by : Stream → List ℕ → List ℕ
founds_by arrivals departs = founds_of arrivals.time (map (λ time. Departs time) departs)

-- the jobs of a station leave in the order in which they came, none of them late
pub record IsTurn (plan : Plan) (rows : Rows) (v : ℕ) (arrivals : Stream) (departs : List ℕ) : Type 0 where
  pub served : IsServed plan rows v arrivals departs
  pub none : IsFirstLate plan rows v arrivals None

-- the jobs of a station depart as they come, none of them late, and these streams leave
pub record IsPassing (plan : Plan) (rows : Rows) (v : ℕ) (arrivals : Stream) (streams : List Stream) : Type 0 where
  pub through : (node : Node) → slice_get plan.net.nodes v ≡ Some node → PassThrough rows node.kind arrivals streams
  pub none : IsFirstLate plan rows v arrivals None

-- the table of a delay is that of these arrivals, which are in its blocks, 16,384 at most
pub record IsCounted (arrivals : Stream) (overtaken : Overtaken) : Type 0 where
  pub ahead : IsAhead arrivals.time (map (λ time. Departs time) overtaken.departs) overtaken.ahead
  pub blocks : AreFewBlocks (length arrivals.time) 16384 overtaken.blocks

-- what is known of a delay whose jobs were put in the order in which they leave
pub record IsOvertaken (plan : Plan) (rows : Rows) (v : ℕ) (arrivals : Stream) (overtaken : Overtaken) : Type 0 where
  pub on_time : (node : Node) → slice_get plan.net.nodes v ≡ Some node → AreOnTime plan.net rows v node.kind arrivals (map (λ time. Departs time) overtaken.departs) (record { job = overtaken.job; time = overtaken.ahead.leaving } ∷ [])
  pub counted : IsCounted arrivals overtaken

-- the state fits what came to a station of the plan
abbrev pub IsKeepingAt : Plan → Rows → ℕ → Stream → Keeping → Type 0
IsKeepingAt plan rows v arrivals (InTurn departs) = IsTurn plan rows v arrivals departs
IsKeepingAt plan rows v arrivals (Overtaking overtaken) = IsOvertaken plan rows v arrivals overtaken
IsKeepingAt plan rows v arrivals (Settled settled) = AreSettledAt plan rows v arrivals settled
IsKeepingAt plan rows v arrivals (Passing streams) = IsPassing plan rows v arrivals streams

abbrev pub IsKeepingOf : Held → Keeping → Type 0
IsKeepingOf held keeping = IsKeepingAt held.plan.now held.rows.now held.number (stream_in held.arrivals) keeping

-- the number of pieces by the state
abbrev pub own_size : Keeping → ℕ
own_size (InTurn departs) = 3
own_size (Overtaking overtaken) = overtaken.blocks.blocks
own_size (Settled settled) = 2
own_size (Passing streams) = 2

-- what is kept if these arrivals depart at these times, in their order: when they leave, how many each found, and the jobs
abbrev pub turn_pieces : Stream → List ℕ → List Piece
turn_pieces arrivals departs = Times departs ∷ Numbers (founds_by arrivals departs) ∷ Numbers arrivals.job ∷ []

-- what each job of a block found
abbrev pub IsFoundBlock : List ℕ → Blocks → ℕ → List ℕ → Type 0
IsFoundBlock founds blocks b found = found ≡ between (b * blocks.block) (min ((b + 1) * blocks.block) blocks.n) founds

-- a piece of a delay: how many each visit of a block found
abbrev pub IsDelayPiece : Stream → Overtaken → ℕ → Piece → Type 0
IsDelayPiece arrivals overtaken b piece = IsOf numbers_in (IsFoundBlock (founds_by arrivals overtaken.departs) overtaken.blocks) b piece

-- a piece of a station that admits or loses each arrival: how the arrivals fared, or what leaves by each output
abbrev pub IsSettledPiece : Plan → Rows → ℕ → Stream → ℕ → Piece → Type 0
IsSettledPiece plan rows v arrivals b (Fared faring) =
    (b ≡ 0) × ((node : Node) → slice_get plan.net.nodes v ≡ Some node → IsFaring plan.net rows v node.kind arrivals faring)
IsSettledPiece plan rows v arrivals b (Streams streams) =
    (b ≡ 1) × ((node : Node) → slice_get plan.net.nodes v ≡ Some node → AreStreams rows node.kind arrivals streams)
IsSettledPiece _ _ _ _ _ _ = ⊥

-- a piece by the state
abbrev pub IsOwnPiece : Plan → Rows → ℕ → Stream → Keeping → ℕ → Piece → Type 0
IsOwnPiece plan rows v arrivals (InTurn departs) b piece = slice_get (turn_pieces arrivals departs) b ≡ Some piece
IsOwnPiece plan rows v arrivals (Overtaking overtaken) b piece = IsDelayPiece arrivals overtaken b piece
IsOwnPiece plan rows v arrivals (Settled settled) b piece = IsSettledPiece plan rows v arrivals b piece
IsOwnPiece plan rows v arrivals (Passing streams) b piece = slice_get (turn_pieces arrivals arrivals.time) b ≡ Some piece

-- how many pieces copy what came: the visits need jobs and times of their own if it was only read
abbrev pub copies_of : Arrivals → ℕ
copies_of (Merged stream) = 0
copies_of (Read stream) = 2

-- these: the jobs, and when they came
abbrev pub copy_pieces : Stream → List Piece
copy_pieces arrivals = Numbers arrivals.job ∷ Times arrivals.time ∷ []

-- the number of all pieces
abbrev pub keeping_size : Arrivals → Keeping → ℕ
keeping_size arrivals keeping = own_size keeping + copies_of arrivals

-- one of them: the copies follow the others
pub record IsKeepingPiece (plan : Plan) (rows : Rows) (v : ℕ) (arrivals : Arrivals) (keeping : Keeping) (b : ℕ) (piece : Piece) : Type 0 where
  pub own : b < own_size keeping → IsOwnPiece plan rows v (stream_in arrivals) keeping b piece
  pub copy : (k : ℕ) → b ≡ own_size keeping + k → slice_get (copy_pieces (stream_in arrivals)) k ≡ Some piece

abbrev pub IsKeepingPieceOf : Held → Keeping → ℕ → Piece → Type 0
IsKeepingPieceOf held keeping b piece = IsKeepingPiece held.plan.now held.rows.now held.number held.arrivals keeping b piece

-- visits and streams are the sequences of the arrivals, none of them late, or this is the first late visit
abbrev pub IsEndBy : Plan → Rows → ℕ → Stream → End → Type 0
IsEndBy plan rows v arrivals (Lists visits streams) = (node : Node) → slice_get plan.net.nodes v ≡ Some node → IsEnding plan.net rows v node.kind arrivals (OnTime visits streams)
IsEndBy plan rows v arrivals (Late fault) = (node : Node) → slice_get plan.net.nodes v ≡ Some node → IsEnding plan.net rows v node.kind arrivals (TooLate fault)
IsEndBy _ _ _ _ _ = ⊥

-- how a station ends is what the run has. Only a run that keeps numbers ends without lists: with what came and when each job departs
abbrev pub IsEndOf : Keep → Held → End → Type 0
IsEndOf keep held (Lists visits streams) = IsWorkedOut held.plan.now held.rows.now (record { number = held.number; ending = OnTime visits streams })
IsEndOf keep held (Turned departs) =
    let it : TurnOf = record { held = held; departs = departs } in
    (keep ≡ KeepNumbers) × IsWorkedOut held.plan.now held.rows.now (result_in_turn it) × KeepTurn (stream_in held.arrivals) departs
IsEndOf keep held (Late fault) = IsWorkedOut held.plan.now held.rows.now (record { number = held.number; ending = TooLate fault })

-- what follows at a station that its jobs have left
abbrev pub IsEmptiedOf : Keep → Held → Emptied → Type 0
IsEmptiedOf keep held (Keeps keeping) = IsKeepingOf held keeping
IsEmptiedOf keep held (Ended end) = IsEndOf keep held end

-- of which plan, rows and node this was held
abbrev pub Whose : Type 0
Whose = Plan × Rows × ℕ

abbrev pub whose : Held → Whose
whose held = (held.plan.now, held.rows.now, held.number)
