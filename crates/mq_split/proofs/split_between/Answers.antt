use Rattle.std.proofs.Common.{◌≡◌, ◌+◌, length, ap, ◌∙◌, Some, arith}
use Rattle.mq_base.proofs.lemmas.Between.{length-between}
use Rattle.mq_split.proofs.Parts.{length-outs_from}
use Rattle.mq_split.specs.Outs.{outs_from, picked_stream}
use Rattle.mq_split.proofs.split_between.Goals as goal

-- the outputs of the jobs at these indices
outs : (c : goal.After-as_slice) → c.as_slice.result.now ≡ outs_from c.args.route.now c.args.from c.args.values.now
outs c = c.as_slice.ensures.value ∙ c.in_ok-outs.ensures

-- there are as many as indices
many : (c : goal.After-as_slice) → c.args.from + length c.as_slice.result.now ≡ c.args.to
many c =
    let count = ap length (outs c) in
    let same = length-outs_from c.args.route.now c.args.from c.args.values.now in
    let values = c.requires.values in
    omega arith

pub streams_by-requires-clause-jobs : goal.streams_by-requires-clause-jobs
streams_by-requires-clause-jobs c =
    let values = many c in
    let part = ap length c.part-jobs.ensures in
    let long = length-between c.args.stream.now.job c.args.from c.args.to (omega arith) c.requires.within in
    omega arith

pub streams_by-requires-clause-times : goal.streams_by-requires-clause-times
streams_by-requires-clause-times c =
    let values = many c in
    let part = ap length c.part-times.ensures in
    let even = c.requires.stream.even in
    let within = c.requires.within in
    let long = length-between c.args.stream.now.time c.args.from c.args.to (omega arith) (omega arith) in
    omega arith

pub returns : goal.returns
returns c =
    let outs = c.as_slice.ensures.value ∙ c.in_ok-outs.ensures in
    record {
      count = c.in_ok-streams.ensures.count;
      parts = λ out l. c.in_ok-streams.ensures.parts out l ∙ (λ i. Some (picked_stream (outs i) (record { job = c.part-jobs.ensures i; time = c.part-times.ensures i }) out));
    }
