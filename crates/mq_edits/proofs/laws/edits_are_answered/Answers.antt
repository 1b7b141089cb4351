use Rattle.std.proofs.Common.{refl}
use Rattle.mq_edits.specs.Edits.{lines_fault, value_fault}
use Rattle.mq_edits.proofs.laws.edits_are_answered.Goals as goal

pub returns : goal.returns
unfolding lines_fault value_fault
returns c = record {
  faults = (refl, (refl, (refl, (refl, (refl, (refl, (refl, (refl, (refl, (refl, (refl, (refl, (refl, (refl, (refl, (refl, (refl, (refl, (refl, (refl, (refl, (refl, (refl, (refl, (refl, (refl, (refl, tt)))))))))))))))))))))))))));
  edits = refl;
  rows = refl;
}
