-- What is kept of a node besides its visits: the carries after its blocks, for each kind.
use Rattle.std.specs.Prelude.{◌≡◌, ◌-◌, ℕ, if◌then◌else◌, List, length, Some, slice_get}
use Rattle.mq_alike.specs.Again.{Coming, blocks_in, is_worked}
use Rattle.mq_core.specs.declared.model.Fate.{Fate}
use Rattle.mq_core.specs.declared.model.Kind.{Kind}
use Rattle.mq_core.specs.declared.model.Kind.TheVariants.{Delay, Fork, ForkJoin, Join, Loss, Server, Source, Split, Tandem, Trunk}
use Rattle.mq_core.specs.declared.model.Node.{Node}
use Rattle.mq_core.specs.declared.model.Plan.{Plan}
use Rattle.mq_core.specs.declared.model.Rows.{Rows}
use Rattle.mq_core.specs.declared.model.Visits.{Visits}
use Rattle.mq_redo.specs.Kept.{IsKeptDelay, IsKeptForkJoin, IsKeptServer, IsKeptSplit, IsKeptTandem, IsStaying}
use Rattle.mq_kept.specs.Carries.{delay_carries, forkjoin_carries, server_carries, split_carries, split_outs, tandem_carries}
use Rattle.mq_kept.specs.declared.checkpoints.Checkpoints.{Checkpoints}
use Rattle.mq_kept.specs.declared.stations.Stays.{Stays}

-- this is kept of a node of this kind, to which this comes and whose visits have these fates; for a source, a loss station, a
-- fork, a join and a trunk group this requires nothing
abbrev pub IsKeptNode : Kind → Coming → ℕ → List Fate → Checkpoints → Type 0
IsKeptNode Source came block fates checkpoints = Unit {0}
IsKeptNode (Server demand) came block fates checkpoints = IsKeptServer demand came block fates (server_carries checkpoints)
IsKeptNode (Delay demand) came block fates checkpoints = IsKeptDelay demand came block fates (delay_carries checkpoints)
IsKeptNode (Loss places demand) came block fates checkpoints = Unit {0}
IsKeptNode (Tandem stages) came block fates checkpoints = IsKeptTandem stages came block fates (tandem_carries checkpoints)
IsKeptNode (ForkJoin branches) came block fates checkpoints = IsKeptForkJoin branches came block fates (forkjoin_carries checkpoints)
IsKeptNode (Split route) came block fates checkpoints = IsKeptSplit route came block (split_outs checkpoints) (split_carries checkpoints)
IsKeptNode (Fork outputs) came block fates checkpoints = Unit {0}
IsKeptNode Join came block fates checkpoints = Unit {0}
IsKeptNode (Trunk servers demand) came block fates checkpoints = Unit {0}

-- what comes to a node with these visits, in a run over rows
abbrev pub coming_of : Rows → Visits → Coming
coming_of rows seen = record { rows = rows; job = seen.job; arrive = seen.arrive }

-- this is kept of the nodes of a run over rows with these visits
pub record AreCheckpoints (nodes : List Node) (rows : Rows) (block : ℕ) (visits : List Visits) (checkpoints : List Checkpoints) : Type 0 where
  pub count : length checkpoints ≡ length nodes
  pub each : (v : ℕ) (node : Node) (seen : Visits) (points : Checkpoints) → slice_get nodes v ≡ Some node → slice_get visits v ≡ Some seen → slice_get checkpoints v ≡ Some points →
      IsKeptNode node.kind (coming_of rows seen) block seen.fate points

-- a node of a plan is of this kind
abbrev pub IsNodeOf : Plan → ℕ → Kind → Type 0
IsNodeOf plan v kind = (node : Node) × (slice_get plan.net.nodes v ≡ Some node) × (node.kind ≡ kind)

-- the first blocks of a node stay, to which `old` came and `new` comes, by what is kept of it
abbrev pub IsStayingNode : Kind → Coming → Coming → ℕ → Stays → Type 0
IsStayingNode kind old new block stays = IsKeptNode kind old block stays.fates.now stays.checkpoints.now × IsStaying kind old new block stays.blocks

-- the number of blocks of a node with this many jobs that are worked after the first ones, which stay
abbrev pub blocks_behind : ℕ → Kind → ℕ → ℕ → ℕ
blocks_behind block kind jobs first = if is_worked kind then blocks_in block jobs - first else 0
