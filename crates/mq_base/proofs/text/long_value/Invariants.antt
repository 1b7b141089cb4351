use Rattle.mq_base.proofs.lemmas.Digits.{ReadsDigits}
use Rattle.mq_base.proofs.text.long_value.Given as goal

abbrev pub invariant-loop-byte : goal.invariant-loop-byte
invariant-loop-byte l = ReadsDigits l.text l.byte-index l.value
