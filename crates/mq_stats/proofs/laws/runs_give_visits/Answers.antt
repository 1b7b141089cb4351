use Rattle.std.proofs.Common.{◌<◌, length, arith, subst}
use Rattle.std.proofs.lemmas.List.{length-map}
use Rattle.mq_core.specs.Asked.{HasDemands}
use Rattle.mq_core.specs.SequenceLaws.{jobs_of}
use Rattle.mq_core.specs.Machine.{Visit}
use Rattle.mq_core.specs.Results.{visits_of}
use Rattle.mq_core.specs.StandardTable.{run_of}
use Rattle.mq_stats.proofs.RunSteps.{each-so, founds-small}
use Rattle.mq_stats.proofs.laws.runs_give_visits.Goals as goal

pub returns : goal.returns
returns c plan rows read v node there few =
    let end = (run_of plan rows).stations v in
    let lengths = c.departs_in_time.ensures plan rows read v node there in
    let jobs = lengths.jobs in
    let founds = lengths.founds in
    let fates = lengths.fates in
    let many = length-map end.visits (λ (x : Visit). x.arrive) in
    let times = read.times in
    let kind = (c.nodes_are_in_limits.ensures plan v node there).kind in
    record {
      few = omega arith;
      arrives = omega arith;
      founds = omega arith;
      fates = omega arith;
      told =
          each-so (λ job. job < length rows.time) (λ job. HasDemands rows node.kind job)
          (λ job below. c.rows_tell_demands.ensures plan.net rows read job (subst (λ n. job < n) times below) node.kind kind)
          (jobs_of end.visits) (c.jobs_are_rows.ensures plan rows v);
      small = founds-small 1048576 (visits_of node.kind end).found lengths.few (omega arith);
    }
