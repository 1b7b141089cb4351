use Rattle.std.proofs.Common.{◌≡◌, drop}
use Rattle.std.specs.List.{flat_map}
use Rattle.mq_model.specs.Said.{columns_after, mentions_of_demand}
use Rattle.mq_model.specs.declared.said.SaidStage.{SaidStage}
use Rattle.mq_model.proofs.front.add_of_stages.Given as goal

abbrev pub invariant-loop-stage : goal.invariant-loop-stage
invariant-loop-stage l =
    columns_after l.columns (flat_map (λ (stage : SaidStage). mentions_of_demand stage.demand) (drop l.stage-index l.stages))
    ≡ columns_after l.initial.columns (flat_map (λ (stage : SaidStage). mentions_of_demand stage.demand) l.stages)
