use Rattle.std.proofs.Common.{◌≡◌, ◌+◌, ap, arith, length, refl, take}
use Rattle.std.specs.Prelude.{◌-◌, sum}
use Rattle.std.proofs.lemmas.List.Sums.{sum_by_more}
use Rattle.mq_stats.proofs.Tables.{sum-rises}
use Rattle.mq_stats.proofs.tails.reached.Goals as goal

pub overflow_add-so_far : goal.overflow_add-so_far
overflow_add-so_far c =
    let fits = c.type_inv.table c.loop-wait.wait in
    let small = c.loop-wait.invariant.small in
    omega arith

pub returns-then-many-so_far-clause-told : goal.returns-then-many-so_far-clause-told
returns-then-many-so_far-clause-told c =
    let table = c.args.table.now in
    let wait = c.loop-wait.wait in
    let more = sum_by_more (λ n. n) table wait 0 (omega arith) in
    let so_far = c.loop-wait.invariant.so_far in
    let later = length table - 1 - (wait + 1) in
    let rises = sum-rises table (wait + 1) later (omega arith) in
    let last : wait + 1 + later ≡ length table - 1 = omega arith in
    let end = ap (λ n. sum (take n table)) last in
    ((λ some. omega arith), (λ enough. refl))

pub returns-then-many-so_far-clause-reached : goal.returns-then-many-so_far-clause-reached
returns-then-many-so_far-clause-reached c =
    let more = sum_by_more (λ n. n) c.args.table.now c.loop-wait.wait 0 (omega arith) in
    let so_far = c.loop-wait.invariant.so_far in
    record {
      own = omega arith;
      enough = omega arith;
      first = λ some. let less = c.loop-wait.invariant.first some in omega arith;
    }

pub returns-clause-told : goal.returns-clause-told
returns-clause-told c =
    let table = c.args.table.now in
    let wait = c.loop-wait.wait in
    let last : wait ≡ length table - 1 = omega arith in
    let end = ap (λ n. sum (take n table)) last in
    let so_far = c.loop-wait.invariant.so_far in
    let less = c.loop-wait.invariant.first (omega arith) in
    ((λ some. cc), (λ enough. absurd (omega arith)))

pub loop-wait-preserved : goal.loop-wait-preserved
loop-wait-preserved c =
    let more = sum_by_more (λ n. n) c.args.table.now c.loop-wait.wait 0 (omega arith) in
    let so_far = c.loop-wait.invariant.so_far in
    let fits = c.type_inv.table c.loop-wait.wait in
    record {
      so_far = omega arith;
      small = omega arith;
      first = λ some. omega arith;
    }
