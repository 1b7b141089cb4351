use Rattle.std.proofs.Common.{◌≡◌, take}
use Rattle.mq_trace.specs.Joined.{all_sources}
use Rattle.mq_trace.proofs.lists.sources.Given as goal

abbrev pub invariant-loop-piece : goal.invariant-loop-piece
invariant-loop-piece l = l.all ≡ all_sources (take l.piece-index l.read)
