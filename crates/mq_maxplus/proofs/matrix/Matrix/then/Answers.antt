use Rattle.std.proofs.Common.{set, ap, ◌∙◌}
use Rattle.mq_maxplus.proofs.Columns.{taking-next}
use Rattle.mq_maxplus.proofs.matrix.Matrix.then.Goals as goal

pub loop-index-preserved : goal.loop-index-preserved
loop-index-preserved c = taking-next _ _ _ _ _ _ c.column.ensures.item (c.set_column.ensures ∙ ap (set c.loop-index.all c.loop-index.index) c.act.ensures.acted) c.loop-index.invariant
