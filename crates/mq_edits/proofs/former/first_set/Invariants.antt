use Rattle.std.proofs.Common.{◌≡◌, take}
use Rattle.mq_edits.specs.Former.{first_set}
use Rattle.mq_edits.proofs.former.first_set.Given as goal

abbrev pub invariant-loop-edit : goal.invariant-loop-edit
invariant-loop-edit l = l.first ≡ first_set l.rows (take l.edit-index l.edits)
