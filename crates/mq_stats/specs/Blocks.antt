-- What is counted of a block of visits.
use Rattle.std.specs.Prelude.{◌≡◌, ◌↔◌, ◌≤◌, ℕ, IfSome, IsSome, length}
use Rattle.mq_core.specs.Sequences.{sequence_totals}
use Rattle.mq_core.specs.declared.model.Kind.{Kind}
use Rattle.mq_core.specs.declared.model.Rows.{Rows}
use Rattle.mq_core.specs.declared.model.Visits.{Visits}
use Rattle.mq_stats.specs.Numbers.{AreSmall, AreVisits, totals_from, visits_between}
use Rattle.mq_stats.specs.Percentiles.{waits_at}
use Rattle.mq_stats.specs.WaitCounts.{AreWaitCounts}
use Rattle.mq_stats.specs.declared.blocks.BlockCount.{BlockCount}

-- the totals of visits to a node, and the counts of their waits, which are there if and only if no wait
-- is longer than `most`
pub record IsBlockOf (rows : Rows) (kind : Kind) (visits : Visits) (span most : ℕ) (block : BlockCount) : Type 0 where
  pub totals : totals_from block.totals ≡ sequence_totals rows kind visits span
  pub small : AreSmall block.totals
  pub told : IsSome block.waits ↔ (block.totals.longest ≤ most)
  pub waits : IfSome block.waits (AreWaitCounts (waits_at rows kind visits))

-- the block of the visits from one position up to another
abbrev pub IsBlock : Rows → Kind → Visits → ℕ → ℕ → ℕ → ℕ → BlockCount → Type 0
IsBlock rows kind visits span most from to block = IsBlockOf rows kind (visits_between from to visits) span most block

-- the counts of the visits up to a position, and of those from that position on
pub record AreNeighbours (before after : BlockCount) : Type 0 where
  pub rows : Rows
  pub kind : Kind
  pub visits : Visits
  pub span : ℕ
  pub most : ℕ
  pub from : ℕ
  pub middle : ℕ
  pub to : ℕ
  pub sound : AreVisits rows kind visits
  pub order : from ≤ middle
  pub next : middle ≤ to
  pub within : to ≤ length visits.job
  pub first : IsBlock rows kind visits span most from middle before
  pub second : IsBlock rows kind visits span most middle to after
