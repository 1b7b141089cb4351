use Rattle.std.proofs.Common.{◌≡◌, ◌+◌, length}
use Rattle.mq_model.specs.NetworkOf.{number_in}
use Rattle.mq_gen.proofs.model.column_of.Given as goal

-- the index in what is left, behind those before it, is that in the whole
abbrev pub invariant-loop-left : goal.invariant-loop-left
invariant-loop-left l = record {
  at : l.index + number_in l.left l.name ≡ number_in l.columns l.name;
  whole : l.index + length l.left ≡ length l.columns;
}

abbrev pub decreases-loop-left : goal.decreases-loop-left
decreases-loop-left l = length l.left
