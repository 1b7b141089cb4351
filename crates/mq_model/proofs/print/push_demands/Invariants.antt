use Rattle.std.proofs.Common.{◌≡◌, ◌++◌, map, take}
use Rattle.mq_model.specs.Printed.{demand_word, spaced}
use Rattle.mq_model.specs.SaidOf.{demand_by}
use Rattle.mq_model.proofs.print.push_demands.Given as goal

abbrev pub invariant-loop-demand : goal.invariant-loop-demand
invariant-loop-demand l = l.text.items ≡ l.initial.text.items ++ spaced (map demand_word (map (demand_by l.net.columns) (take l.demand-index l.demands)))
