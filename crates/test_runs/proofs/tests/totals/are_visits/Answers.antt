use Rattle.std.proofs.Common.{All, get_or, rules}
use Rattle.mq_core.specs.Told.{HasValue}
use Rattle.test_runs.proofs.Values.{value-small}
use Rattle.test_runs.proofs.tests.totals.are_visits.Goals as goal

pub returns : goal.returns
returns c =
    let few = c.are_even.ensures.few in
    let arrives = c.are_even.ensures.arrives in
    let founds = c.are_even.ensures.founds in
    let fates = c.are_even.ensures.fates in
    let jobs : All (λ job. HasValue c.args.rows.now 0 job) c.args.visits.now.job = search (rules, c.are_told.ensures) in
    λ yes kind asks. record {
      few = search (rules, few);
      arrives = search (rules, arrives);
      founds = search (rules, founds);
      fates = search (rules, fates);
      told = λ k d l. asks (get_or c.args.visits.now.job k d) (jobs k d l, value-small c.args.rows.now (get_or c.args.visits.now.job k d) (jobs k d l) (c.is_column_small.ensures yes));
      small = search (rules, c.are_small.ensures);
    }
