use Rattle.std.proofs.Common.{length, subst, ap, ◌∙◌}
use Rattle.std.proofs.lemmas.Result.{IfOk-weaker}
use Rattle.mq_stations.specs.Losses.{AreAdmittedAndLost}
use Rattle.mq_stations.proofs.LossFates.{loses, settled-even}
use Rattle.mq_stations.proofs.loss.loss_streams.Goals as goal

pub streams_of-requires : goal.streams_of-requires
streams_of-requires c =
    let r = c.requires in
    let even = settled-even c.fates_are_in_time.ensures r.0 r.1 r.2 c.args.arrivals.now c.args.settled.now r.3.even r.4 in
    record { jobs = even.jobs; times = even.times; departs = ap length (c.from_vec.ensures ∙ (c.in_ok-departs.ensures.items ∙ c.as_slice.ensures)) ∙ even.departs }

pub returns : goal.returns
returns c =
    let arrivals = c.args.arrivals.now in
    let settled = c.args.settled.now in
    IfOk-weaker c.streams_of.result _ _
    (λ streams h rows places demand stream s.
    loses c.fates_are_in_time.ensures rows places demand arrivals settled streams stream.even s
    (subst (λ ds. AreAdmittedAndLost arrivals settled.admitted ds streams) (c.from_vec.ensures ∙ (c.in_ok-departs.ensures.items ∙ c.as_slice.ensures)) h))
    c.streams_of.ensures
