use Rattle.std.proofs.Common.{arith}
use Rattle.mq_stats.proofs.Fine.{fine-few}
use Rattle.mq_stats.proofs.laws.runs_have_few_visits.Goals as goal

pub returns : goal.returns
returns c =
    record {
      fine = fine-few;
      first = λ plan rows read one v node there.
          let most = c.visits_are_few.ensures plan rows read (c.first_version_copies_nothing.ensures plan.net plan.sound one) v in
          let times = read.times in
          let count = read.count in
          omega arith;
    }
