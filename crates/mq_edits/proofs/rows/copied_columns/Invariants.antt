use Rattle.std.proofs.Common.{◌≡◌, drop, map, take}
use Rattle.mq_edits.proofs.rows.copied_columns.Given as goal

abbrev pub invariant-loop-column : goal.invariant-loop-column
invariant-loop-column l = l.lists.items ≡ map (drop l.from) (take l.column-index l.columns)
