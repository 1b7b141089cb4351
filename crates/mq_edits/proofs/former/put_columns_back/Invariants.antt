use Rattle.std.proofs.Common.{◌≡◌, ◌++◌, drop, take}
use Rattle.mq_edits.specs.Former.{columns_before}
use Rattle.mq_edits.proofs.former.put_columns_back.Given as goal

abbrev pub invariant-loop-at : goal.invariant-loop-at
invariant-loop-at l = l.columns.items ≡ columns_before l.from (take l.at l.former) l.initial.columns.items ++ drop l.at l.initial.columns.items
