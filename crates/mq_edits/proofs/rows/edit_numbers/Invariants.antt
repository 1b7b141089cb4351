use Rattle.std.proofs.Common.{◌≡◌, ◌++◌, ◌≤◌, drop, length, take}
use Rattle.mq_edits.specs.Edited.{AreInPlace, edited_list, number_of}
use Rattle.mq_edits.proofs.rows.edit_numbers.Given as goal

abbrev pub invariant-loop-edit : goal.invariant-loop-edit
invariant-loop-edit l = record {
  made : take l.from l.numbers ++ l.list.items ≡ edited_list (number_of l.place) l.numbers (take l.edit-index l.edits);
  places : AreInPlace (length (take l.from l.numbers ++ l.list.items)) (drop l.edit-index l.edits);
  long : length l.former ≤ length l.list.items;
}
