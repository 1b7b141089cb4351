-- Which values the rows give for a job at a node.
use Rattle.std.specs.Prelude.{ℕ}
use Rattle.mq_core.specs.KindTable.{behaviour_of}
use Rattle.mq_core.specs.declared.model.Kind.{Kind}
use Rattle.mq_core.specs.declared.model.Rows.{Rows}

-- the rows give all that a node of this kind needs for this job, each demand in its limit
abbrev pub HasDemands : Rows → Kind → ℕ → Type 0
HasDemands rows kind job = (behaviour_of kind).asked rows job
