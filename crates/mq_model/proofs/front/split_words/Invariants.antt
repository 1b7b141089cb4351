use Rattle.std.proofs.Common.{◌≡◌, ◌≤◌, ◌-◌, ◌++◌, length}
use Rattle.std.specs.List.{slice_range}
use Rattle.mq_base.specs.Text.{words_of, texts}
use Rattle.mq_model.proofs.front.split_words.Given as goal

abbrev pub invariant-loop-span : goal.invariant-loop-span
invariant-loop-span l = record {
  words : words_of l.line ≡ texts l.words.items ++ words_of (slice_range l.line l.from (length l.line));
  within : l.from ≤ length l.line;
  few : length l.words.items ≤ l.from;
}

abbrev pub decreases-loop-span : goal.decreases-loop-span
decreases-loop-span l = length l.line - l.from
