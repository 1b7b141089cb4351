use Rattle.std.proofs.Common.{◌≡◌, ◌++◌, map, take}
use Rattle.mq_model.specs.Printed.{input_word, spaced}
use Rattle.mq_model.specs.SaidOf.{input_by, names_in}
use Rattle.mq_model.proofs.print.push_inputs.Given as goal

abbrev pub invariant-loop-input : goal.invariant-loop-input
invariant-loop-input l = l.text.items ≡ l.initial.text.items ++ spaced (map input_word (map (input_by (names_in l.net)) (take l.input-index l.inputs)))
