use Rattle.std.specs.Prelude.{List, length}
use Rattle.mq_core.specs.declared.model.Node.{Node}
use Rattle.mq_core.specs.declared.model.Rows.{Rows}
use Rattle.mq_crew.specs.Crew.{AreAll}
use Rattle.mq_counts.specs.Counts.{AreVisitsIn, IsCountIn}
use Rattle.mq_counts.specs.Leaving.{AreNodeStreams}
use Rattle.mq_counts.proofs.counts.counts_at.Given as goal

-- the nodes so far
abbrev pub invariant-loop-at : goal.invariant-loop-at
invariant-loop-at l =
    (nodes : List Node) (rows : Rows) → AreVisitsIn rows l.all (length l.all) l.visits → AreNodeStreams nodes rows l.all (length l.all) l.parted.nodes → AreAll (IsCountIn nodes rows l.form l.all) l.at l.counts
