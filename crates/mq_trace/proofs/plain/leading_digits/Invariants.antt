use Rattle.std.proofs.Common.{take}
use Rattle.mq_base.proofs.lemmas.Digits.{ReadsDigits}
use Rattle.mq_trace.proofs.plain.leading_digits.Given as goal

abbrev pub invariant-loop-index : goal.invariant-loop-index
invariant-loop-index l = ReadsDigits (take l.most l.text) l.index l.value
