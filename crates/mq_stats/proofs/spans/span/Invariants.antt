use Rattle.std.proofs.Common.{◌≡◌, drop, max}
use Rattle.std.specs.Prelude.{fold, map}
use Rattle.mq_core.specs.Sequences.{greatest_time}
use Rattle.mq_stats.proofs.spans.span.Given as goal

-- the greatest so far, with what is left, is the greatest of all
abbrev pub invariant-loop-node : goal.invariant-loop-node
invariant-loop-node l = fold max l.span (map greatest_time (drop l.node-index l.node-items)) ≡ fold max 0 (map greatest_time l.node-items)
