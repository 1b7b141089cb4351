use Rattle.std.proofs.Common.{◌≡◌, ◌∙◌, ◌+◌, ◌∷◌, [], length, ap, length-append, arith}
use Rattle.mq_split.specs.Outs.{picked_stream}
use Rattle.mq_split.proofs.Parts.{parts-next}
use Rattle.mq_split.proofs.streams_by.Goals as goal

-- what was picked is what leaves by this output
picked-part : (c : goal.In_ok-push) → c.in_ok-pick.field-0 ≡ picked_stream c.args.outs.now (record { job = c.args.jobs.now; time = c.args.times.now }) c.loop-out.out
picked-part c = λ i. record { job = c.in_ok-pick.ensures.jobs i; time = c.in_ok-pick.ensures.times i }

pub loop-out-preserved : goal.loop-out-preserved
loop-out-preserved c =
    let count : length c.loop-out.streams ≡ c.loop-out.out = c.loop-out.invariant.count in
    record {
      count = ap length c.in_ok-push.ensures.ok ∙ (length-append c.loop-out.streams (c.in_ok-pick.field-0 ∷ []) ∙ ap (λ n. n + 1) count);
      parts = parts-next c.loop-out.streams _ _ (picked_stream c.args.outs.now (record { job = c.args.jobs.now; time = c.args.times.now })) c.loop-out.out count c.in_ok-push.ensures.ok (picked-part c) c.loop-out.invariant.parts;
    }
