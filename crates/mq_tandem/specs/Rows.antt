-- What a job of a tandem leaves to the next job: a vector of the latest departures from each stage. Those of a stage come
-- latest first, and a zero follows all of them. A job acts on it linearly, so the job is a matrix.
use Rattle.std.specs.Prelude.{ℕ, zero, suc, ◌+◌, ◌-◌, ◌<◌, List, [], ◌∷◌, ◌++◌, All, drop, map, replicate, slice_index, sum, take}
use Rattle.mq_core.specs.Sequences.{IsSoundLoad}
use Rattle.mq_core.specs.Recurrences.{firsts}
use Rattle.mq_maxplus.specs.declared.mp.Mp.{Mp}
use Rattle.mq_maxplus.specs.declared.mp.Mp.TheVariants.{Void, At}
use Rattle.mq_maxplus.specs.Maxplus.{mp_max, mp_plus, Fits}
use Rattle.mq_maxplus.specs.Matrices.{entry, matrix_act, unit_matrix, CanMatrixAct}
use Rattle.mq_tandem.specs.Stages.{AreStages}

-- how many departures of each stage are kept: of the first stage one, of each other stage as many as it has places
abbrev pub kept : List ℕ → List ℕ
kept [] = []
kept (places ∷ more) = 1 ∷ more

-- the row of the zero, after all departures
abbrev pub zero_row : List ℕ → ℕ
zero_row places = sum (kept places)

-- the row of the latest departure from the last stage; the argument says how many departures of each stage are kept
abbrev pub last_row : List ℕ → ℕ
last_row [] = 0
last_row (count ∷ []) = 0
last_row (count ∷ (next ∷ more)) = count + last_row (next ∷ more)

-- when a stage has room for another job: with k places, when the job that came to it k jobs earlier left. The rows begin
-- with the departures of that stage. After the last stage there is always room.
abbrev pub room_row : List ℕ → List Mp → Mp
room_row [] rows = Void
room_row (count ∷ more) rows = entry rows (count - 1)

-- what is kept after a job that comes to these stages at this time and has these demands; the numbers say how many departures
-- of each stage are kept. The job is served after the one before it, then stays until the next stage has room, and its
-- departure becomes the latest.
abbrev pub passed : Mp → List ℕ → List ℕ → List Mp → List Mp
passed came [] demands rows = rows
passed came (count ∷ more) [] rows = rows
passed came (count ∷ more) (demand ∷ demands) rows =
    let time = mp_max (mp_plus (mp_max came (entry rows 0)) (At demand)) (room_row more (drop count rows)) in
    take count (time ∷ rows) ++ passed time more demands (drop count rows)

-- what the job at an index makes of the kept departures, given the places of the stages, the arrivals, and the demands at
-- each stage
abbrev pub job_act : List ℕ → List ℕ → List (List ℕ) → ℕ → List Mp → List Mp
job_act places arrive demands at rows =
    passed (mp_plus (entry rows (zero_row places)) (At (slice_index arrive at))) (kept places) (firsts (map (drop at) demands)) rows

-- the matrix of that job
abbrev pub job_matrix : List ℕ → List ℕ → List (List ℕ) → ℕ → List (List Mp)
job_matrix places arrive demands at = map (job_act places arrive demands at) (unit_matrix (zero_row places + 1))

-- what a number of jobs from an index on make of the kept departures, one after another
abbrev pub ran : List ℕ → List ℕ → List (List ℕ) → ℕ → ℕ → List Mp → List Mp
ran places arrive demands from zero rows = rows
ran places arrive demands from (suc n) rows = job_act places arrive demands (from + n) (ran places arrive demands from n rows)

-- every number that they make fits
abbrev pub RunFits : List ℕ → List ℕ → List (List ℕ) → ℕ → ℕ → List Mp → Type 0
RunFits places arrive demands from count rows = (n : ℕ) → n < count → (row : ℕ) → Fits (entry (ran places arrive demands from (suc n) rows) row)

-- a number minus another, at least 0
abbrev pub mp_minus : ℕ → Mp → Mp
mp_minus by Void = Void
mp_minus by (At a) = At (a - by)

-- what is kept before the first job: a missing departure counts as a departure at 0
abbrev pub none_kept : List ℕ → List Mp
none_kept places = replicate (zero_row places + 1) (At 0)

-- a time, not minus infinity
abbrev pub IsTime : Mp → Type 0
IsTime Void = ⊥
IsTime (At a) = Unit {0}

-- a matrix may act on times: each sum fits, and the results are times
pub record CanActOnTimes (columns : List (List Mp)) (rows : List Mp) : Type 0 where
  pub sums : CanMatrixAct columns rows
  pub times : All IsTime (matrix_act columns rows)

-- what a tandem accepts
pub record IsTandemLoad (arrive : List ℕ) (demands : List (List ℕ)) (places : List ℕ) : Type 0 where
  pub load : All (λ column. IsSoundLoad arrive column) demands
  pub stages : AreStages places demands
