-- What is kept of a node whose jobs are computed block by block, for each kind, and which of its blocks stay.
use Rattle.std.specs.Prelude.{◌≡◌, ◌*◌, ◌≤◌, ℕ, List, fold, length, map, max, replicate, slice_index}
use Rattle.mq_alike.specs.Again.{Coming, alike}
use Rattle.mq_core.specs.Handling.{demand_of_job}
use Rattle.mq_core.specs.Kinds.Split.{output_at, route_value}
use Rattle.mq_core.specs.declared.model.Demand.{Demand}
use Rattle.mq_core.specs.declared.model.Fate.{Fate}
use Rattle.mq_core.specs.declared.model.Kind.{Kind}
use Rattle.mq_core.specs.declared.model.Kind.TheVariants.{ForkJoin, Server, Tandem}
use Rattle.mq_core.specs.declared.model.Route.{Route}
use Rattle.mq_core.specs.declared.model.Rows.{Rows}
use Rattle.mq_core.specs.declared.model.Stage.{Stage}
use Rattle.mq_core.specs.declared.model.Stream.{Stream}
use Rattle.mq_forkjoin.specs.Runs.{asked_at, job_run}
use Rattle.mq_forkjoin.specs.Servers.{begins_of}
use Rattle.mq_maxplus.specs.Maxplus.{affine_act, mp_or_zero}
use Rattle.mq_maxplus.specs.Matrices.{matrix_act}
use Rattle.mq_maxplus.specs.declared.mp.Mp.{Mp}
use Rattle.mq_maxplus.specs.declared.mp.Mp.TheVariants.{Void}
use Rattle.mq_redo.specs.Alone.{as_is, delay_job, own_only}
use Rattle.mq_redo.specs.Branches.{asks_at_servers}
use Rattle.mq_redo.specs.Stages.{asks_at_stages, last_departure, places_of}
use Rattle.mq_redo.specs.Staying.{IsKeptScan, IsKeptStation}
use Rattle.mq_server.specs.Jobs.{job}
use Rattle.mq_tandem.specs.Rows.{job_matrix, none_kept}

-- what comes to a node as this stream, with these rows
abbrev pub coming_as : Rows → Stream → Coming
coming_as rows arrivals = record { rows = rows; job = arrivals.job; arrive = arrivals.time }

-- what the job at an index makes of the carry before it: the last departure from a server, the departure from a delay, the latest
-- departures from the stages of a tandem or the servers of a fork-join, the output of a split
abbrev pub server_does : Demand → Coming → ℕ → Mp → Mp
server_does demand came k last = affine_act (job came.arrive (map (demand_of_job came.rows demand) came.job) k) last

abbrev pub delay_does : Demand → Coming → ℕ → ℕ → ℕ
delay_does demand came k last = own_only (delay_job came.arrive (map (demand_of_job came.rows demand) came.job) k) last

abbrev pub tandem_does : List Stage → Coming → ℕ → List Mp → List Mp
tandem_does stages came k rows = matrix_act (job_matrix (places_of stages) came.arrive (asks_at_stages came.rows stages came.job) k) rows

abbrev pub forkjoin_does : List (List Demand) → Coming → ℕ → List ℕ → List ℕ
forkjoin_does branches came k last = job_run (slice_index came.arrive k) 0 (begins_of branches) (asked_at (asks_at_servers came.rows branches came.job) k) last

abbrev pub split_does : Route → Coming → ℕ → ℕ → ℕ
split_does route came k last = own_only (output_at route (slice_index (map (route_value came.rows route) came.job) k) k) last

-- what is kept of a station to which this comes: the fates of its visits, and the carry after each block of `block` jobs
abbrev pub IsKeptServer : Demand → Coming → ℕ → List Fate → List Mp → Type 0
IsKeptServer demand came block fates carries = IsKeptStation mp_or_zero (server_does demand came) Void (length came.arrive) block fates carries

abbrev pub IsKeptDelay : Demand → Coming → ℕ → List Fate → List ℕ → Type 0
IsKeptDelay demand came block fates carries = IsKeptStation as_is (delay_does demand came) 0 (length came.arrive) block fates carries

abbrev pub IsKeptTandem : List Stage → Coming → ℕ → List Fate → List (List Mp) → Type 0
IsKeptTandem stages came block fates carries =
    IsKeptStation (last_departure (places_of stages)) (tandem_does stages came) (none_kept (places_of stages)) (length came.arrive) block fates carries

abbrev pub IsKeptForkJoin : List (List Demand) → Coming → ℕ → List Fate → List (List ℕ) → Type 0
IsKeptForkJoin branches came block fates carries = IsKeptStation (fold max 0) (forkjoin_does branches came) (replicate 8 0) (length came.arrive) block fates carries

-- what is kept of a split to which this comes: the output of each job, and of the last job of each block
abbrev pub IsKeptSplit : Route → Coming → ℕ → List ℕ → List ℕ → Type 0
IsKeptSplit route came block outs carries = IsKeptScan as_is (split_does route came) 0 (length came.job) block outs carries

-- the first `first` blocks of a node of this kind stay, to which `old` came and `new` comes: all their visits are the same
pub record IsStaying (kind : Kind) (old new : Coming) (block first : ℕ) : Type 0 where
  pub even : length old.arrive ≡ length old.job
  pub same : first * block ≤ alike kind old new

-- an earlier run of a server, a tandem or a fork-join had these fates and carries, and its first `first` blocks stay now that
-- `new` comes
abbrev pub IsServerStaying : Demand → Coming → ℕ → ℕ → List Fate → List Mp → Type 0
IsServerStaying demand new block first fates carries = (old : Coming) × IsKeptServer demand old block fates carries × IsStaying (Server demand) old new block first

abbrev pub IsTandemStaying : List Stage → Coming → ℕ → ℕ → List Fate → List (List Mp) → Type 0
IsTandemStaying stages new block first fates carries = (old : Coming) × IsKeptTandem stages old block fates carries × IsStaying (Tandem stages) old new block first

abbrev pub IsForkJoinStaying : List (List Demand) → Coming → ℕ → ℕ → List Fate → List (List ℕ) → Type 0
IsForkJoinStaying branches new block first fates carries = (old : Coming) × IsKeptForkJoin branches old block fates carries × IsStaying (ForkJoin branches) old new block first
