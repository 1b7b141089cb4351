use Rattle.std.proofs.Common.{◌≡◌, ◌++◌, ◌≤◌, drop, length, take}
use Rattle.mq_edits.specs.Edited.{AreInPlace, edited_list, source_of}
use Rattle.mq_edits.proofs.rows.edit_sources.Given as goal

abbrev pub invariant-loop-edit : goal.invariant-loop-edit
invariant-loop-edit l = record {
  made : take l.from l.sources ++ l.list.items ≡ edited_list source_of l.sources (take l.edit-index l.edits);
  places : AreInPlace (length (take l.from l.sources ++ l.list.items)) (drop l.edit-index l.edits);
  long : length l.former ≤ length l.list.items;
}
