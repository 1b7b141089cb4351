use Rattle.std.proofs.Common.{◌≡◌, ◌++◌, map, take}
use Rattle.std.specs.Prelude.{decimal}
use Rattle.mq_model.specs.Printed.{spaced}
use Rattle.mq_model.proofs.print.push_numbers.Given as goal

abbrev pub invariant-loop-number : goal.invariant-loop-number
invariant-loop-number l = l.text.items ≡ l.initial.text.items ++ spaced (map decimal (take l.number-index l.numbers))
