use Rattle.std.proofs.Common.{◌≡◌, map, take}
use Rattle.mq_model.specs.NetworkOf.{stage_in}
use Rattle.mq_model.proofs.network.stages_in.Given as goal

abbrev pub invariant-loop-stage : goal.invariant-loop-stage
invariant-loop-stage l = l.all ≡ map (stage_in l.columns) (take l.stage-index l.stages)
