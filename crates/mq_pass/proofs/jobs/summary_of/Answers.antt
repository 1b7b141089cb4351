use Rattle.std.proofs.Common.{◌≤◌, ◌^◌, sym, subst, arith}
use Rattle.mq_chain.specs.Stored.{IsShort}
use Rattle.mq_maxplus.specs.declared.affine.Affine.{Affine}
use Rattle.mq_pass.proofs.Serving.{range-short, holds}
use Rattle.mq_pass.proofs.jobs.summary_of.Goals as goal

-- the summary is short, and its sum is small
is-short : (c : goal.After-summarise) → IsShort c.summarise.result × (c.summarise.result.add ≤ 2 ^ 57)
is-short c =
    let jobs = c.args.jobs.now in
    let held = holds c.args.b jobs.blocks.block jobs.blocks.blocks jobs.blocks.n _ _ c.requires jobs.blocks.none_more jobs.blocks.some c.range-from.ensures.0 c.range-from.ensures.1 in
    let whole = jobs.whole in
    let last = held.1 in
    subst (λ (s : Affine). IsShort s × (s.add ≤ 2 ^ 57)) (sym c.summarise.ensures.sum) (range-short jobs.step.arrive.now jobs.step.demands.now jobs.step.load _ _ held.0 (omega arith))

pub returns-clause-short : goal.returns-clause-short
returns-clause-short c = (is-short c).0

pub returns-clause-small : goal.returns-clause-small
returns-clause-small c = (is-short c).1
