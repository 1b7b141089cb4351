use Rattle.std.proofs.Common.{◌+◌, ◌-◌, ◌∙◌, arith, get_or, length, length-set, min}
use Rattle.std.specs.Prelude.{◌==◌}
use Rattle.std.proofs.lemmas.List.Sums.{count_by-le-length}
use Rattle.std.proofs.lemmas.Option.{slice_get-get_or}
use Rattle.mq_stats.proofs.Tables.{counts-next}
use Rattle.mq_stats.proofs.wait_counts.count_waits.Goals as goal

pub loop-at-init : goal.loop-at-init
loop-at-init c =
    let some = c.requires.some in
    record {
      room = omega arith;
      so_far = λ wait. let e = c.requires.empty wait in omega arith;
    }

pub overflow_add-table : goal.overflow_add-table
overflow_add-table c =
    let all = c.loop-at.invariant.so_far c.min.result in
    let most = count_by-le-length (λ w. min w (length c.args.table.now - 1) == c.min.result) c.args.waits.now in
    let few = c.requires.few in
    omega arith

pub loop-at-preserved : goal.loop-at-preserved
loop-at-preserved c = record {
  room = length-set c.loop-at.table c.min.result (get_or c.loop-at.table c.min.result 0 + 1) ∙ c.loop-at.invariant.room;
  so_far = λ wait.
      counts-next c.loop-at.table (length c.args.table.now - 1) c.args.waits.now c.loop-at.at c.min.result _ wait _ (slice_get-get_or c.args.waits.now c.loop-at.at 0 c.loop-at-test.true) c.loop-at.invariant.room c.min.ensures (c.loop-at.invariant.so_far wait);
}
