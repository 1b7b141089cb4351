use Rattle.std.proofs.Common.{◌≤◌, length, map}
use Rattle.std.specs.Prelude.{vec_capacity}
use Rattle.mq_trace.proofs.MergeFacts.{Merging}
use Rattle.mq_trace.proofs.pieces.merge_quoted.Given as goal

abbrev pub invariant-loop-k : goal.invariant-loop-k
invariant-loop-k l = record {
  room : length l.pieces ≤ vec_capacity l.merged;
  merging : Merging l.fn.text (map (λ s. s.now) l.pieces) (map (λ s. s.now) l.merged.items) l.rest l.at l.k l.outside;
}
