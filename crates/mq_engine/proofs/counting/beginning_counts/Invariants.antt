use Rattle.std.proofs.Common.{◌≡◌, ◌≤◌, All, [], true, length}
use Rattle.std.specs.Vec.{vec_capacity}
use Rattle.mq_engine.specs.Progress.{is_waiting}
use Rattle.mq_engine.proofs.counting.beginning_counts.Given as goal

abbrev pub invariant-loop : goal.invariant-loop
invariant-loop l = record {
  came : length l.counts.items ≡ l.counter;
  left : length l.outputs.items ≡ l.counter;
  none : All (λ streams. streams ≡ []) l.outputs.items;
  stand : length l.stands.items ≡ l.counter;
  waits : All (λ at. is_waiting at ≡ true) l.stands.items;
  room_came : l.nodes ≤ vec_capacity l.counts;
  room_left : l.nodes ≤ vec_capacity l.outputs;
  room_stand : l.nodes ≤ vec_capacity l.stands;
}
