use Rattle.std.proofs.Common.{◌≡◌, length, map}
use Rattle.std.specs.List.{list_any}
use Rattle.mq_words.specs.Words.{is_bad_word}
use Rattle.mq_words.proofs.rule.has_bad_word.Given as goal

-- what is left is answered as the whole
abbrev pub invariant-loop-left : goal.invariant-loop-left
invariant-loop-left l = list_any is_bad_word (map (λ w. w.now) l.left) ≡ list_any is_bad_word (map (λ w. w.now) l.words)

abbrev pub decreases-loop-left : goal.decreases-loop-left
decreases-loop-left l = length l.left
