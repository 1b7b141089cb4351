-- The nodes of a wave, by how they are worked out.
use Rattle.std.specs.Prelude.{◌≡◌, ◌<◌, ◌≤◌, ℕ, Contains, List, length}
use Rattle.std.specs.List.{AllByRecursion}
use Rattle.mq_core.specs.StandardTable.{run_of}
use Rattle.mq_core.specs.Theorems.{IsReadFor}
use Rattle.mq_core.specs.declared.model.Plan.{Plan}
use Rattle.mq_core.specs.declared.model.Rows.{Rows}
use Rattle.mq_engine.specs.Apart.{CanGather}
use Rattle.mq_arrivals.specs.declared.nodes.Arriving.{Arriving}
use Rattle.mq_exits.specs.Results.{IsResultOf}
use Rattle.mq_exits.specs.Turns.{IsGiven}
use Rattle.mq_exits.specs.declared.keeping.Keep.{Keep}
use Rattle.mq_exits.specs.declared.turns.Given.{Given}
use Rattle.mq_engine.specs.Progress.{AreEarly, CanWork, HaveAll}
use Rattle.mq_engine.specs.declared.wave.Way.{Way}
use Rattle.mq_engine.specs.declared.wave.Way.TheVariants.{Crowded, Apart, Station}
use Rattle.mq_engine.specs.declared.wave.Wave.{Wave}

-- all has come to these nodes
pub record IsWave (s : Arriving) : Type 0 where
  pub read : IsReadFor s.plan.now.net s.rows.now
  pub early : AreEarly s.outputs.now
  pub all : HaveAll s.plan.now s.rows.now s.outputs.now s.ready.now
  pub block : 1 ≤ s.block

-- the nodes of one side of a wave, or of all of it
pub record IsSide (s : Arriving) : Type 0 where
  pub wave : IsWave s
  pub few : length s.ready.now ≤ 64

-- as many as these nodes, and each is what one of them gives
pub record AreGiven (keep : Keep) (s : Arriving) (given : List Given) : Type 0 where
  pub len : length given ≡ length s.ready.now
  pub known : AllByRecursion (IsGiven keep s.plan.now s.rows.now s.ready.now) given

-- a node has so many visits, more than it may
abbrev pub IsCrowded : Plan → Rows → ℕ → ℕ → Type 0
IsCrowded plan rows v count = (length ((run_of plan rows).stations v).visits ≡ count) × (1048576 < count)

-- how a node is worked out: not at all, as a fork or a join, or as a station
abbrev pub IsWay : Arriving → ℕ → Way → Type 0
IsWay s v (Crowded count) = IsCrowded s.plan.now s.rows.now v count
IsWay s v Apart = CanGather s.plan.now s.rows.now s.outputs.now v
IsWay s v Station = CanWork s.plan.now s.rows.now s.outputs.now v

-- one of these nodes, a fork or a join
abbrev pub IsApartOf : Arriving → ℕ → Type 0
IsApartOf s v = Contains s.ready.now v × CanGather s.plan.now s.rows.now s.outputs.now v

-- one of these nodes, a station
abbrev pub IsStationOf : Arriving → ℕ → Type 0
IsStationOf s v = Contains s.ready.now v × CanWork s.plan.now s.rows.now s.outputs.now v

-- nodes told apart by how they are worked out, each of them one of these
pub record AreSorted (s : Arriving) (wave : Wave) : Type 0 where
  pub crowded : AllByRecursion (IsResultOf s.plan.now s.rows.now s.ready.now) wave.crowded
  pub apart : AllByRecursion (IsApartOf s) wave.apart.items
  pub stations : AllByRecursion (IsStationOf s) wave.stations.items
