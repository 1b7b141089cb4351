use Rattle.std.proofs.Common.{◌≡◌, replicate, None}
use Rattle.mq_crew.proofs.order.vacant.Given as goal

abbrev pub invariant-fills : goal.invariant-fills
invariant-fills g l = l.slots.items ≡ replicate l.counter None
