use Rattle.std.proofs.Common.{arith, ap, refl, ◌∙◌}
use Rattle.mq_stats.proofs.Tables.{reached-is}
use Rattle.mq_stats.specs.Percentiles.{hundredths}
use Rattle.mq_stats.proofs.tails.counted.Goals as goal

pub returns-in_err-p99-clause-told : goal.returns-in_err-p99-clause-told
returns-in_err-p99-clause-told c =
    let most = c.hundredths.ensures in
    let told = c.in_err-p99.ensures.told in
    rw c.from_residual.ensures ((λ some. let enough = told.0 some in omega arith), (λ enough. told.1 (omega arith)))

pub returns-clause-told : goal.returns-clause-told
returns-clause-told c =
    let most = c.hundredths.ensures in
    let enough = c.in_ok-p99.ensures.told.0 refl in
    ((λ some. omega arith), (λ so_many. refl))

pub returns-clause-percentiles : goal.returns-clause-percentiles
returns-clause-percentiles c = λ waits e h.
    let table = c.args.table.now in
    let nearly = c.hundredths.ensures in
    let most = c.hundredths-2.ensures in
    let half = c.hundredths-3.ensures in
    record {
      p50 = reached-is 50 waits table _ _ (omega arith) h c.in_ok-p50.ensures.reached (half ∙ ap (hundredths 50) e) (λ l. omega arith) (λ l. omega arith);
      p90 = reached-is 90 waits table _ _ (omega arith) h c.in_ok-p90.ensures.reached (most ∙ ap (hundredths 90) e) (λ l. omega arith) (λ l. omega arith);
      p99 = reached-is 99 waits table _ _ (omega arith) h c.in_ok-p99.ensures.reached (nearly ∙ ap (hundredths 99) e) (λ l. omega arith) (λ l. omega arith);
    }
