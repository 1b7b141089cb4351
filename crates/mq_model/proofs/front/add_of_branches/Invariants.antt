use Rattle.std.proofs.Common.{◌≡◌, drop}
use Rattle.std.specs.List.{flat_map}
use Rattle.mq_model.specs.Said.{columns_after, mentions_of_demand}
use Rattle.mq_model.proofs.front.add_of_branches.Given as goal

abbrev pub invariant-loop-demands : goal.invariant-loop-demands
invariant-loop-demands l =
    columns_after l.columns (flat_map (λ demands. flat_map mentions_of_demand demands) (drop l.demands-index l.branches))
    ≡ columns_after l.initial.columns (flat_map (λ demands. flat_map mentions_of_demand demands) l.branches)
