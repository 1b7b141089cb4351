use Rattle.std.proofs.Common.{◌*◌, ◌≤◌}
use Rattle.mq_engine.proofs.sides.coming_to_all.Given as goal

-- each node adds less than 2^32
abbrev pub invariant-loop-at : goal.invariant-loop-at
invariant-loop-at l = l.count ≤ l.at * 4294967296
