use Rattle.std.proofs.Common.{◌≡◌, length, map}
use Rattle.mq_words.specs.Words.{words_left}
use Rattle.mq_words.proofs.rule.next_name.Given as goal

-- what is left is answered as the whole
abbrev pub invariant-loop-left : goal.invariant-loop-left
invariant-loop-left l = words_left (map (λ w. w.now) l.left) ≡ words_left (map (λ w. w.now) l.words)

abbrev pub decreases-loop-left : goal.decreases-loop-left
decreases-loop-left l = length l.left
