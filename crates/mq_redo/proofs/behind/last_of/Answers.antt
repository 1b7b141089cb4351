use Rattle.std.proofs.Common.{◌-◌, drop, length, take, ◌∙◌}
use Rattle.std.proofs.lemmas.List.{take_rest}
use Rattle.mq_redo.proofs.behind.last_of.Goals as goal

pub returns : goal.returns
returns c =
    let from = c.args.from in
    let job = c.from_vec.ensures ∙ (c.in_ok-job.ensures.items ∙ ((λ k. take (length (c.as_slice.ensures k) - from) (drop from (c.as_slice.ensures k))) ∙ take_rest c.args.stream.now.job from)) in
    let time = c.from_vec-2.ensures ∙ (c.in_ok-time.ensures.items ∙ ((λ k. take (length (c.as_slice-2.ensures k) - from) (drop from (c.as_slice-2.ensures k))) ∙ take_rest c.args.stream.now.time from)) in
    λ k. record { job = job k; time = time k }
