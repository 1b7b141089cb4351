use Rattle.std.proofs.Common.{◌+◌, ◌-◌, length}
use Rattle.test_texts.proofs.tests.base.lines_and_words.Given as goal

abbrev pub decreases-loop-from : goal.decreases-loop-from
decreases-loop-from l = length l.text + 1 - l.from
