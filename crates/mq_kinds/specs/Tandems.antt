-- A tandem under work.
use Rattle.std.specs.Prelude.{◌≡◌, ℕ, List, [], length, map, ⊤}
use Rattle.mq_core.specs.Recurrences.{tandem_departs}
use Rattle.mq_core.specs.declared.model.Kind.{Kind}
use Rattle.mq_core.specs.declared.model.Rows.{Rows}
use Rattle.mq_core.specs.declared.model.Stream.{Stream}
use Rattle.mq_maxplus.specs.Matrices.{entry, matrix_act, matrix_then}
use Rattle.mq_maxplus.specs.Maxplus.{mp_or_zero}
use Rattle.mq_maxplus.specs.declared.mp.Mp.{Mp}
use Rattle.mq_scan.specs.Blocks.{AreTimesOf, IsSumOf}
use Rattle.mq_scan.specs.Folds.{AreBefore}
use Rattle.mq_tandem.specs.Rows.{IsTandemLoad, job_matrix, kept, last_row, none_kept}
use Rattle.mq_stations.specs.Leaving.{AreServed}
use Rattle.mq_stations.specs.Scans.{AreFewBlocks}
use Rattle.mq_kinds.specs.Pieces.{IsOf, in_step, product_in, steps_of, times_in}
use Rattle.mq_kinds.specs.declared.pieces.Piece.{Piece}
use Rattle.mq_kinds.specs.declared.tandem.Tandem.{Tandem}

-- what the jobs of a block do together
abbrev pub IsTandemSum : Stream → Tandem → ℕ → List (List Mp) → Type 0
IsTandemSum arrivals tandem b sum = IsSumOf matrix_then (job_matrix tandem.places arrivals.time tandem.demands) tandem.blocks b sum

-- the latest departures before each block
abbrev pub AreTandemCarries : Stream → Tandem → List (List Mp) → Type 0
AreTandemCarries arrivals tandem carries =
    (length carries ≡ tandem.blocks.blocks) × AreBefore matrix_act (none_kept tandem.places) (job_matrix tandem.places arrivals.time tandem.demands) tandem.blocks.block carries

-- the latest departure from the last stage, of those that are kept
abbrev pub latest_of : List ℕ → List Mp → ℕ
latest_of places carry = mp_or_zero (entry carry (last_row (kept places)))

-- when the jobs of a block depart
abbrev pub AreTandemTimes : Stream → Tandem → ℕ → List ℕ → Type 0
AreTandemTimes arrivals tandem b times =
    AreTimesOf (latest_of tandem.places) matrix_act (none_kept tandem.places) (job_matrix tandem.places arrivals.time tandem.demands) tandem.blocks b times

-- when all jobs depart, by the recurrence
abbrev pub departs_of : Stream → Tandem → List ℕ
departs_of arrivals tandem = tandem_departs tandem.places (map (λ _. []) tandem.places) arrivals.time tandem.demands

-- a tandem covers all arrivals, in few blocks, and its recurrence gives the departures of the station; if there are carries, they are the latest departures before each block
pub record IsTandem (rows : Rows) (kind : Kind) (arrivals : Stream) (tandem : Tandem) : Type 0 where
  pub load : IsTandemLoad arrivals.time tandem.demands tandem.places
  pub blocks : AreFewBlocks (length arrivals.time) 1024 tandem.blocks
  pub before : in_step tandem.before ⊤ (AreTandemCarries arrivals tandem)
  pub serves : AreServed rows kind arrivals (departs_of arrivals tandem)

-- a piece: what the jobs of a block do together, and in the second step when they depart
abbrev pub IsTandemPiece : Stream → Tandem → ℕ → Piece → Type 0
IsTandemPiece arrivals tandem b piece = in_step tandem.before (IsOf product_in (IsTandemSum arrivals tandem) b piece) (λ _. IsOf times_in (AreTandemTimes arrivals tandem) b piece)

abbrev pub tandem_steps : Tandem → ℕ
tandem_steps tandem = steps_of tandem.before
