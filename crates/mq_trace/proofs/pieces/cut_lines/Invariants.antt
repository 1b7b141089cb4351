use Rattle.std.proofs.Common.{◌≡◌, ◌⊎◌, ◌+◌, ◌≤◌, ◌++◌, length, map, vec_len}
use Rattle.std.specs.Prelude.{vec_capacity}
use Rattle.std.specs.List.{concat}
use Rattle.mq_trace.specs.Pieces.{AreLines, IsRest}
use Rattle.mq_trace.proofs.pieces.cut_lines.Given as goal

abbrev pub invariant-loop : goal.invariant-loop
invariant-loop l = record {
  len : vec_len l.pieces + 1 ≡ l.counter;
  room : l.count ≤ vec_capacity l.pieces;
  most : l.counter ≤ l.count;
  whole : concat (map (λ s. s.now) l.pieces.items) ++ l.rest ≡ l.fn.text;
  lines : AreLines (map (λ s. s.now) l.pieces.items);
  rest : (length (map (λ s. s.now) l.pieces.items) ≡ 0) ⊎ IsRest l.rest;
}
