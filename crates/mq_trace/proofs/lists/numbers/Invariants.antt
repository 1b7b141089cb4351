use Rattle.std.proofs.Common.{◌≡◌, take}
use Rattle.mq_trace.specs.Joined.{all_numbers}
use Rattle.mq_trace.proofs.lists.numbers.Given as goal

abbrev pub invariant-loop-piece : goal.invariant-loop-piece
invariant-loop-piece l = l.all ≡ all_numbers l.place (take l.piece-index l.read)
