use Rattle.std.proofs.Common.{◌≡◌, ◌+◌, ◌++◌, length, map, take}
use Rattle.mq_core.specs.declared.model.Fate.TheVariants.{Departs}
use Rattle.mq_core.proofs.fate_lists.put_each.Given as goal

abbrev pub invariant-loop-at : goal.invariant-loop-at
invariant-loop-at l = record {
  so_far : take (l.from + l.at) l.fates.items ≡ take l.from l.fn.kept ++ map (λ time. Departs time) (take l.at l.times);
  len : length l.fates.items ≡ l.from + length l.times;
}
