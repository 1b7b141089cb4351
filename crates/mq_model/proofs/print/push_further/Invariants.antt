use Rattle.std.proofs.Common.{◌≡◌, ◌++◌, map, take}
use Rattle.std.specs.List.{flat_map}
use Rattle.mq_model.specs.Printed.{spaced, stage_words}
use Rattle.mq_model.specs.SaidOf.{stage_by}
use Rattle.mq_model.proofs.print.push_further.Given as goal

abbrev pub invariant-loop-stage : goal.invariant-loop-stage
invariant-loop-stage l = l.text.items ≡ l.initial.text.items ++ spaced (flat_map stage_words (map (stage_by l.net.columns) (take l.stage-index l.stages)))
