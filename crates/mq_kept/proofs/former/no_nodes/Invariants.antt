use Rattle.std.proofs.Common.{◌≡◌, ◌≤◌, length}
use Rattle.std.specs.Vec.{vec_capacity}
use Rattle.mq_kept.specs.Formers.{no_lists}
use Rattle.mq_kept.proofs.former.no_nodes.Given as goal
use Rattle.std.proofs.Common.{All, []}
use Rattle.mq_kept.specs.declared.checkpoints.Checkpoints.TheVariants.{Nothing}

abbrev pub invariant-loop : goal.invariant-loop
invariant-loop l = record {
  came : length l.visits.items ≡ l.counter;
  left : length l.outputs.items ≡ l.counter;
  checkpoints : length l.checkpoints.items ≡ l.counter;
  no_visits : All (λ visits. visits ≡ no_lists.visits) l.visits.items;
  no_streams : All (λ streams. streams ≡ []) l.outputs.items;
  no_checkpoints : All (λ points. points ≡ Nothing) l.checkpoints.items;
  room_came : l.count ≤ vec_capacity l.visits;
  room_left : l.count ≤ vec_capacity l.outputs;
  room_checkpoints : l.count ≤ vec_capacity l.checkpoints;
}
