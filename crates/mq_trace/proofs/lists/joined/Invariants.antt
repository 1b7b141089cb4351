use Rattle.std.proofs.Common.{◌≡◌, ◌+◌, ◌<◌, ◌≤◌, [], ℕ, get_or, length}
use Rattle.std.specs.Prelude.{vec_capacity}
use Rattle.mq_crew.specs.Crew.{AreAll}
use Rattle.mq_trace.specs.Joined.{IsListAt, all_numbers}
use Rattle.mq_trace.proofs.lists.joined.Given as goal

abbrev pub invariant-loop-list : goal.invariant-loop-list
invariant-loop-list g l = record {
  rest : AreAll (IsListAt l.lists.columns l.lists.read.now) (length l.left.items) l.left.items;
  count : length l.left.items + length l.demands.items ≡ l.lists.columns;
  room : l.lists.columns ≤ vec_capacity l.demands;
  done : (k : ℕ) → k < length l.demands.items → get_or l.demands.items k [] ≡ all_numbers (k + 1) l.lists.read.now;
}

abbrev pub decreases-loop-list : goal.decreases-loop-list
decreases-loop-list g l = length l.left.items
