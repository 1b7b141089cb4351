use Rattle.std.proofs.Common.{◌≡◌, ◌≤◌}
use Rattle.std.specs.Vec.{vec_len, vec_capacity}
use Rattle.mq_join.specs.Items.{AreFresh}
use Rattle.mq_join.proofs.matches.new_rows.Given as goal

abbrev pub invariant-loop : goal.invariant-loop
invariant-loop l = record {
  fresh : AreFresh l.rows.items;
  len : vec_len l.rows ≡ l.counter;
  room : l.count ≤ vec_capacity l.rows;
}
