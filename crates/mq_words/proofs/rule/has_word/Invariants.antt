use Rattle.std.proofs.Common.{◌≡◌, length, map}
use Rattle.mq_words.specs.Words.{has_word}
use Rattle.mq_words.proofs.rule.has_word.Given as goal

-- what is left is answered as the whole
abbrev pub invariant-loop-left : goal.invariant-loop-left
invariant-loop-left l = has_word l.word (map (λ w. w.now) l.left) ≡ has_word l.word (map (λ w. w.now) l.words)

abbrev pub decreases-loop-left : goal.decreases-loop-left
decreases-loop-left l = length l.left
