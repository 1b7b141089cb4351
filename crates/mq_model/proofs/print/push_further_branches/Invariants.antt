use Rattle.std.proofs.Common.{◌≡◌, ◌++◌, map, take}
use Rattle.std.specs.List.{flat_map}
use Rattle.mq_model.specs.Printed.{barred_words, spaced}
use Rattle.mq_model.specs.SaidOf.{demand_by}
use Rattle.mq_model.proofs.print.push_further_branches.Given as goal

abbrev pub invariant-loop-demands : goal.invariant-loop-demands
invariant-loop-demands l = l.text.items ≡ l.initial.text.items ++ spaced (flat_map barred_words (map (map (demand_by l.net.columns)) (take l.demands-index l.branches)))
