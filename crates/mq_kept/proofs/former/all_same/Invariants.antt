use Rattle.std.proofs.Common.{◌≡◌, ◌≤◌, All, length}
use Rattle.std.specs.Vec.{vec_capacity}
use Rattle.mq_kept.specs.declared.former.Former.TheVariants.{Same}
use Rattle.mq_kept.proofs.former.all_same.Given as goal

abbrev pub invariant-loop : goal.invariant-loop
invariant-loop l = record {
  count : length l.formers.items ≡ l.counter;
  same : All (λ former. former ≡ Same) l.formers.items;
  room : l.count ≤ vec_capacity l.formers;
}
