use Rattle.std.proofs.Common.{◌+◌, ◌-◌}
use Rattle.test_texts.proofs.tests.base.add_words.Given as goal

abbrev pub decreases-loop-at : goal.decreases-loop-at
decreases-loop-at l = l.end + 1 - l.at
