use Rattle.std.proofs.Common.{◌≡◌, ◌++◌, drop, take}
use Rattle.std.specs.List.{AllZip}
use Rattle.mq_edits.specs.Edited.{edited_columns}
use Rattle.mq_edits.specs.Former.{StaysUpTo}
use Rattle.mq_edits.proofs.rows.edit_columns.Given as goal

abbrev pub invariant-loop-at : goal.invariant-loop-at
invariant-loop-at l = record {
  done : l.columns.items ≡ edited_columns 1 (take l.at l.initial.columns.items) l.edits ++ drop l.at l.initial.columns.items;
  stays : AllZip (StaysUpTo l.from) l.initial.columns.items l.columns.items;
}
