use Rattle.std.proofs.Common.{◌≡◌, length, map, All, sym, ◌∙◌, ap, subst, arith}
use Rattle.std.proofs.lemmas.List.{length-map}
use Rattle.mq_pass.specs.declared.left.Left.{Left}
use Rattle.mq_pass.specs.Passing.{IsLeft, left_from}
use Rattle.mq_pass.proofs.Lefts.{left-few, applied-of}
use Rattle.mq_pass.proofs.rest.ended.Goals as goal

pub invariant_of-rest : goal.invariant_of-rest
invariant_of-rest g c =
    let jobs = c.args.jobs.now in
    let few = left-few 0 c.args.passed.now in
    let numbers : length c.in_ok-left.left ≡ length (left_from 0 c.args.passed.now) = sym (length-map c.in_ok-left.left (λ (q : Left). q.block)) ∙ ap length c.in_ok-left.ensures.numbers in
    let same : length c.as_slice.result.now ≡ length c.in_ok-left.left = ap length c.as_slice.ensures in
    let each = c.requires.each in
    let most = jobs.few in
    record {
      sound = subst (All (IsLeft jobs.step.arrive.now jobs.step.demands.now jobs.blocks.block jobs.blocks.blocks)) (sym c.as_slice.ensures) c.in_ok-left.ensures.left;
      few = omega arith;
    }

pub together-departs-requires-clause-applied : goal.together-departs-requires-clause-applied
together-departs-requires-clause-applied g c =
    let jobs = c.args.jobs.now in
    applied-of jobs.step.arrive.now jobs.step.demands.now jobs.blocks.block c.as_slice.result.now (left_from 0 c.args.passed.now) c.in-Ok.applied
    (ap (map (λ (q : Left). q.block)) c.as_slice.ensures ∙ c.in_ok-left.ensures.numbers) c.in-Ok.ensures
