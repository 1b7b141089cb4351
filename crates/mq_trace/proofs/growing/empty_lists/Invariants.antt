use Rattle.std.proofs.Common.{◌≡◌, map, take, []}
use Rattle.mq_trace.proofs.growing.empty_lists.Given as goal

abbrev pub invariant-loop : goal.invariant-loop
invariant-loop l = l.lists.items ≡ map (λ _. []) (take l.index l.columns)
