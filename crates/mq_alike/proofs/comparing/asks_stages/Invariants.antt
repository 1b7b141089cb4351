use Rattle.std.proofs.Common.{◌≡◌, true, take}
use Rattle.std.specs.List.{list_all}
use Rattle.mq_alike.specs.Again.{same_demand}
use Rattle.mq_edits.specs.Former.{rows_before}
use Rattle.mq_alike.proofs.comparing.asks_stages.Given as goal

abbrev pub invariant-loop-at : goal.invariant-loop-at
invariant-loop-at l = list_all (λ stage. same_demand (rows_before l.former l.rows) l.rows l.job stage.demand) (take l.at l.stages) ≡ true
