-- How much of a run is redone after its rows were edited: the number of blocks, node by node.
use Rattle.std.specs.Prelude.{◌≡◌, ◌<◌, ◌≤◌, ◌+◌, ◌-◌, ◌/◌, ◌==◌, ◌&&◌, Bool, true, false, if◌then◌else◌, ℕ, suc, List, [], ◌∷◌, length, Option, None, Some, slice_get, sum_by}
use Rattle.std.specs.List.{list_all}
use Rattle.mq_core.specs.Handling.{demand_of_job}
use Rattle.mq_core.specs.Kinds.Split.{route_value}
use Rattle.mq_core.specs.NetworkRun.{run_in}
use Rattle.mq_core.specs.Came.{came_by}
use Rattle.mq_core.specs.SequenceLaws.{arrives_of, jobs_of, sends_once}
use Rattle.mq_core.specs.Sequences.{sequence_fates, sequence_outs, sequence_stream, sequence_visits}
use Rattle.mq_core.specs.Wiring.{ranking}
use Rattle.mq_core.specs.declared.model.Demand.{Demand}
use Rattle.mq_core.specs.declared.model.Kind.{Kind}
use Rattle.mq_core.specs.declared.model.Kind.TheVariants.{Delay, Fork, ForkJoin, Join, Loss, Server, Source, Split, Tandem, Trunk}
use Rattle.mq_core.specs.declared.model.Network.{Network}
use Rattle.mq_core.specs.declared.model.Node.{Node}
use Rattle.mq_core.specs.declared.model.Rows.{Rows}
use Rattle.mq_core.specs.declared.model.Stage.{Stage}

-- a job asks for the same by the rows of two runs
abbrev pub same_demand : Rows → Rows → ℕ → Demand → Bool
same_demand rows rows' job demand = demand_of_job rows demand job == demand_of_job rows' demand job

-- what a node of this kind reads from a job's row is the same: the demand at each server, or the value that the route reads
abbrev pub asks_same : Rows → Rows → Kind → ℕ → Bool
asks_same rows rows' Source job = true
asks_same rows rows' (Server demand) job = same_demand rows rows' job demand
asks_same rows rows' (Delay demand) job = same_demand rows rows' job demand
asks_same rows rows' (Loss places demand) job = same_demand rows rows' job demand
asks_same rows rows' (Tandem stages) job = list_all (λ (stage : Stage). same_demand rows rows' job stage.demand) stages
asks_same rows rows' (ForkJoin branches) job = list_all (λ demands. list_all (same_demand rows rows' job) demands) branches
asks_same rows rows' (Split route) job = route_value rows route job == route_value rows' route job
asks_same rows rows' (Fork outputs) job = true
asks_same rows rows' Join job = true
asks_same rows rows' (Trunk servers demand) job = same_demand rows rows' job demand

-- a node whose blocks are counted
abbrev pub is_counted : Kind → Bool
is_counted Source = true
is_counted (Server demand) = true
is_counted (Delay demand) = true
is_counted (Loss places demand) = false
is_counted (Tandem stages) = true
is_counted (ForkJoin branches) = true
is_counted (Split route) = true
is_counted (Fork outputs) = false
is_counted Join = false
is_counted (Trunk servers demand) = false

-- a node whose jobs are worked block by block; the jobs of a source depart as they come
abbrev pub is_worked : Kind → Bool
is_worked Source = false
is_worked (Server demand) = true
is_worked (Delay demand) = true
is_worked (Loss places demand) = false
is_worked (Tandem stages) = true
is_worked (ForkJoin branches) = true
is_worked (Split route) = true
is_worked (Fork outputs) = false
is_worked Join = false
is_worked (Trunk servers demand) = false

-- what comes to a node in a run over rows: the job of each visit, and when it came
pub record Coming : Type 0 where
  pub rows : Rows
  pub job : List ℕ
  pub arrive : List ℕ

-- two visits are the same: the same job comes at the same time and asks for the same
abbrev pub same_visit : Kind → Rows → ℕ → ℕ → Rows → ℕ → ℕ → Bool
same_visit kind rows job arrive rows' job' arrive' = (job == job') && ((arrive == arrive') && asks_same rows rows' kind job')

-- the number of first visits that are the same in two runs; so the least position of a difference, if there is one
abbrev pub alike_from : Kind → Rows → List ℕ → List ℕ → Rows → List ℕ → List ℕ → ℕ
alike_from kind rows [] arrives rows' jobs' arrives' = 0
alike_from kind rows (job ∷ jobs) [] rows' jobs' arrives' = 0
alike_from kind rows (job ∷ jobs) (arrive ∷ arrives) rows' [] arrives' = 0
alike_from kind rows (job ∷ jobs) (arrive ∷ arrives) rows' (job' ∷ jobs') [] = 0
alike_from kind rows (job ∷ jobs) (arrive ∷ arrives) rows' (job' ∷ jobs') (arrive' ∷ arrives') =
    if same_visit kind rows job arrive rows' job' arrive' then suc (alike_from kind rows jobs arrives rows' jobs' arrives') else 0

abbrev pub alike : Kind → Coming → Coming → ℕ
alike kind old new = alike_from kind old.rows old.job old.arrive new.rows new.job new.arrive

-- the least number of blocks of this size that hold this many visits
abbrev pub blocks_in : ℕ → ℕ → ℕ
blocks_in block visits = (visits + (block - 1)) / block

-- the number of blocks of a node that are redone: 0 if nothing differs, else all from that of the first difference on
abbrev pub again_at : ℕ → Kind → Coming → Coming → ℕ
again_at block kind old new =
    let same = alike kind old new in
    if (same == length old.job) && (same == length new.job) then 0 else blocks_in block (length new.job) - same / block

-- what comes to a node in the run of a network
abbrev pub coming_in : Network → Rows → ℕ → Coming
coming_in net rows v = record {
  rows = rows;
  job = jobs_of ((run_in net rows).stations v).visits;
  arrive = arrives_of ((run_in net rows).stations v).visits;
}

-- the number of blocks of a node that are redone, if they are counted
abbrev pub again_of : ℕ → Option Node → Coming → Coming → ℕ
again_of block None old new = 0
again_of block (Some node) old new = if is_counted node.kind then again_at block node.kind old new else 0

-- the number of these blocks that are worked: all but those of sources
abbrev pub worked_of : ℕ → Option Node → Coming → Coming → ℕ
worked_of block None old new = 0
worked_of block (Some node) old new = if is_worked node.kind then again_at block node.kind old new else 0

-- the number of blocks of a node, if they are counted
abbrev pub blocks_of : ℕ → Option Node → Coming → ℕ
blocks_of block None new = 0
blocks_of block (Some node) new = if is_counted node.kind then blocks_in block (length new.job) else 0

-- the sums over all nodes, by rank
abbrev pub again : Network → Rows → Rows → ℕ → ℕ
again net old new block = sum_by (λ v. again_of block (slice_get net.nodes v) (coming_in net old v) (coming_in net new v)) (ranking net.nodes)

abbrev pub worked : Network → Rows → Rows → ℕ → ℕ
worked net old new block = sum_by (λ v. worked_of block (slice_get net.nodes v) (coming_in net old v) (coming_in net new v)) (ranking net.nodes)

abbrev pub all_blocks : Network → Rows → ℕ → ℕ
all_blocks net rows block = sum_by (λ v. blocks_of block (slice_get net.nodes v) (coming_in net rows v)) (ranking net.nodes)

-- the blocks that are redone are no more than there are, and none if the rows are the same; those that are worked are no more
-- than those that are redone
pub record AgainIsBounded : Type 0 where
  pub within : (net : Network) (old new : Rows) (block : ℕ) → again net old new block ≤ all_blocks net new block
  pub none : (net : Network) (rows : Rows) (block : ℕ) → again net rows rows block ≡ 0
  pub worked_within : (net : Network) (old new : Rows) (block : ℕ) → worked net old new block ≤ again net old new block

-- a visit is in both runs at a position, and asks for the same in both
pub record IsAlikeAt (kind : Kind) (old new : Coming) (k : ℕ) : Type 0 where
  pub job : ℕ
  pub arrive : ℕ
  pub old_job : slice_get old.job k ≡ Some job
  pub new_job : slice_get new.job k ≡ Some job
  pub old_arrive : slice_get old.arrive k ≡ Some arrive
  pub new_arrive : slice_get new.arrive k ≡ Some arrive
  pub asks : asks_same old.rows new.rows kind job ≡ true

-- the visits before the first difference are in both runs; at it the runs differ, or one of them has ended; it comes no later
-- than the end of either
pub record AlikeBelow (kind : Kind) (old new : Coming) : Type 0 where
  pub each : (k : ℕ) → k < alike kind old new → IsAlikeAt kind old new k
  pub differs : IsAlikeAt kind old new (alike kind old new) → ⊥
  pub old_few : alike kind old new ≤ length old.job
  pub new_few : alike kind old new ≤ length new.job

abbrev pub AlikeIsFirst : Type 0
AlikeIsFirst = (kind : Kind) (old new : Coming) → AlikeBelow kind old new

-- a node has no difference between two runs: its sequences are the same, given its arrivals and what they ask for
pub record IsUnchanged (kind : Kind) (old new : Coming) : Type 0 where
  pub jobs : old.job ≡ new.job
  pub arrives : old.arrive ≡ new.arrive
  pub fates : sequence_fates old.rows kind (came_by old.job old.arrive) ≡ sequence_fates new.rows kind (came_by new.job new.arrive)
  pub outs : sequence_outs old.rows kind (came_by old.job old.arrive) ≡ sequence_outs new.rows kind (came_by new.job new.arrive)
  pub visits : sequence_visits old.rows kind (came_by old.job old.arrive) ≡ sequence_visits new.rows kind (came_by new.job new.arrive)
  pub stream : (out : ℕ) → sequence_stream old.rows kind (came_by old.job old.arrive) out ≡ sequence_stream new.rows kind (came_by new.job new.arrive) out

abbrev pub SequencesStay : Type 0
SequencesStay =
    (kind : Kind) (old new : Coming) → sends_once kind ≡ true → length old.arrive ≡ length old.job → length new.arrive ≡ length new.job →
    alike kind old new ≡ length old.job → alike kind old new ≡ length new.job → IsUnchanged kind old new
