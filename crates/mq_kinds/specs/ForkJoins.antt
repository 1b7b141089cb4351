-- The state of a fork-join.
use Rattle.std.specs.Prelude.{◌≡◌, ◌+◌, ◌-◌, ◌*◌, ◌/◌, ◌%◌, ◌<◌, ℕ, List, length, Option, Some, None, ⊤}
use Rattle.mq_core.specs.declared.model.Kind.{Kind}
use Rattle.mq_core.specs.declared.model.Rows.{Rows}
use Rattle.mq_core.specs.declared.model.Stream.{Stream}
use Rattle.mq_crew.specs.Crew.{AreAll}
use Rattle.mq_maxplus.specs.Maxplus.{affine_act, affine_then, mp_or_zero}
use Rattle.mq_maxplus.specs.declared.affine.Affine.{Affine}
use Rattle.mq_maxplus.specs.declared.mp.Mp.{Mp}
use Rattle.mq_maxplus.specs.declared.mp.Mp.TheVariants.{Void}
use Rattle.mq_scan.specs.Blocks.{AreTimesOf, IsSumOf}
use Rattle.mq_scan.specs.Folds.{AreBefore}
use Rattle.mq_server.specs.Jobs.{job}
use Rattle.mq_stations.specs.Leaving.{AreServed}
use Rattle.mq_stations.specs.Scans.{AreFewBlocks}
use Rattle.mq_kinds.specs.Branches.{IsPassage, asked_at, departs_of, times_at}
use Rattle.mq_kinds.specs.Pieces.{IsOf, in_step, steps_of, sum_in, times_in}
use Rattle.mq_kinds.specs.declared.forkjoin.ForkJoin.{ForkJoin}
use Rattle.mq_kinds.specs.declared.pieces.Left.{Left}
use Rattle.mq_kinds.specs.declared.pieces.Left.TheVariants.{InTurn}
use Rattle.mq_kinds.specs.declared.pieces.Piece.{Piece}

-- what a job does at the next server of the branch at this index
abbrev pub job_at : List ℕ → ForkJoin → ℕ → ℕ → Affine
job_at arrive work at = job (times_at arrive work.passage at) (asked_at work.server work.passage at)

-- what the jobs of a block do together there
abbrev pub IsSumAt : List ℕ → ForkJoin → ℕ → ℕ → Affine → Type 0
IsSumAt arrive work at b sum = IsSumOf affine_then (job_at arrive work at) work.blocks b sum

-- the last departure from it before each block
abbrev pub AreCarriesAt : List ℕ → ForkJoin → ℕ → List Mp → Type 0
AreCarriesAt arrive work at carries = (length carries ≡ work.blocks.blocks) × AreBefore affine_act Void (job_at arrive work at) work.blocks.block carries

-- when the jobs of a block depart from it
abbrev pub AreTimesAt : List ℕ → ForkJoin → ℕ → ℕ → List ℕ → Type 0
AreTimesAt arrive work at b times = AreTimesOf mp_or_zero affine_act Void (job_at arrive work at) work.blocks b times

-- the jobs are at the same server of each branch that has one left, in few blocks, and what is known of all branches gives the departures of the station; if there are carries, they are the last departures before each block
pub record IsForkJoin (rows : Rows) (kind : Kind) (arrivals : Stream) (work : ForkJoin) : Type 0 where
  pub tier : work.server < 4
  pub passage : IsPassage arrivals.time work.server work.passage
  pub blocks : AreFewBlocks (length arrivals.time) 16384 work.blocks
  pub before : in_step work.before ⊤ (AreAll (AreCarriesAt arrivals.time work) (length work.passage.servers.items))
  pub serves : AreServed rows kind arrivals (departs_of arrivals.time work.passage)

-- the number of pieces of a step
abbrev pub forkjoin_size : ForkJoin → ℕ
forkjoin_size work = length work.passage.servers.items * work.blocks.blocks

-- a piece, branch by branch: what the jobs of a block do together, and in the second step of a tier when they depart
abbrev pub IsForkJoinPiece : List ℕ → ForkJoin → ℕ → Piece → Type 0
IsForkJoinPiece arrive work b piece =
    let at = b / work.blocks.blocks in
    let block = b % work.blocks.blocks in
    in_step work.before (IsOf sum_in (IsSumAt arrive work at) block piece) (λ _. IsOf times_in (AreTimesAt arrive work at) block piece)

-- the number of further steps, at most: two for each of four tiers
abbrev pub forkjoin_steps : ForkJoin → ℕ
forkjoin_steps work = 2 * (4 - work.server) + steps_of work.before

-- after a tier: the first step of the next tier, or the end, if no branch has a server left
pub record IsNextTier (arrive : List ℕ) (old new : ForkJoin) : Type 0 where
  pub passage : IsPassage arrive new.server new.passage
  pub server : new.server ≡ old.server + 1
  pub within : new.server < 4
  pub blocks : new.blocks ≡ old.blocks
  pub before : new.before ≡ None
  pub departs : departs_of arrive new.passage ≡ departs_of arrive old.passage

abbrev pub IsTier : List ℕ → ForkJoin → ForkJoin → Option Left → Type 0
IsTier arrive old new None = IsNextTier arrive old new
IsTier arrive old new (Some (InTurn departs)) = departs ≡ departs_of arrive old.passage
IsTier arrive old new (Some _) = ⊥
