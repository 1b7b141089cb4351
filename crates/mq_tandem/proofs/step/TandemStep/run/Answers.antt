use Rattle.std.proofs.Common.{◌≡◌, ◌+◌, ◌-◌, ◌∙◌, List, ℕ, suc, ap, sym, subst, arith}
use Rattle.mq_maxplus.specs.declared.mp.Mp.{Mp}
use Rattle.mq_maxplus.specs.Maxplus.{Fits}
use Rattle.mq_maxplus.specs.Matrices.{entry}
use Rattle.mq_tandem.specs.Rows.{job_act, ran}
use Rattle.mq_tandem.proofs.step.TandemStep.run.Goals as goal

pub pass-requires-clause-fits : goal.pass-requires-clause-fits
pass-requires-clause-fits c row =
    let step = c.args.self.now in
    let n = c.loop-at.at - c.args.from in
    let index : c.args.from + n ≡ c.loop-at.at = omega arith in
    subst (λ (z : ℕ × List Mp). Fits (entry (job_act step.places.now step.arrive.now step.demands.now z.0 z.1) row)) (λ i. (index i, sym c.loop-at.invariant.ran i)) (c.requires.fits n (omega arith) row)

pub loop-at-preserved : goal.loop-at-preserved
loop-at-preserved c =
    let step = c.args.self.now in
    let n = c.loop-at.at - c.args.from in
    let index : c.loop-at.at ≡ c.args.from + n = omega arith in
    let count : suc n ≡ c.loop-at.at + 1 - c.args.from = omega arith in
    record {
      ran =
          c.pass.ensures.acted
          ∙ ((λ i. job_act step.places.now step.arrive.now step.demands.now (index i) (c.loop-at.invariant.ran i))
          ∙ ap (λ (k : ℕ). ran step.places.now step.arrive.now step.demands.now c.args.from k c.args.rows.now) count);
      size = c.pass.ensures.size ∙ c.loop-at.invariant.size;
    }
