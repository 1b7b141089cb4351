use Rattle.std.proofs.Common.{◌≡◌, ◌+◌, ◌-◌, ◌∙◌, List, ℕ, suc, ap, sym, subst, arith}
use Rattle.mq_maxplus.specs.declared.mp.Mp.{Mp}
use Rattle.mq_maxplus.specs.Maxplus.{Fits}
use Rattle.mq_maxplus.specs.Matrices.{entry}
use Rattle.mq_tandem.specs.Bare.{bare}
use Rattle.mq_tandem.specs.Rows.{job_act, ran}
use Rattle.mq_tandem.proofs.step.TandemStep.run_both.Goals as goal

pub serve_both-requires-clause-first_fits : goal.serve_both-requires-clause-first_fits
serve_both-requires-clause-first_fits c row =
    let step = c.args.self.now in
    let n = c.loop-at.at - c.args.from in
    let index : c.args.from + n ≡ c.loop-at.at = omega arith in
    subst (λ (z : ℕ × List Mp). Fits (entry (job_act step.places.now step.arrive.now step.demands.now z.0 z.1) row)) (λ i. (index i, sym c.loop-at.invariant.first i)) (c.requires.first_fits n (omega arith) row)

pub serve_both-requires-clause-zero_fits : goal.serve_both-requires-clause-zero_fits
serve_both-requires-clause-zero_fits c row =
    let step = c.args.self.now in
    let n = c.loop-at.at - c.args.from in
    let index : c.args.from + n ≡ c.loop-at.at = omega arith in
    subst (λ (z : ℕ × List Mp). Fits (entry (job_act step.places.now step.arrive.now step.demands.now z.0 z.1) row)) (λ i. (index i, sym c.loop-at.invariant.zero i)) (c.requires.zero_fits n (omega arith) row)

pub loop-at-preserved : goal.loop-at-preserved
loop-at-preserved c =
    let step = c.args.self.now in
    let n = c.loop-at.at - c.args.from in
    let index : c.loop-at.at ≡ c.args.from + n = omega arith in
    let count : suc n ≡ c.loop-at.at + 1 - c.args.from = omega arith in
    record {
      first =
          c.serve_both.ensures.first
          ∙ ((λ i. job_act step.places.now step.arrive.now step.demands.now (index i) (c.loop-at.invariant.first i))
          ∙ ap (λ (k : ℕ). ran step.places.now step.arrive.now step.demands.now c.args.from k (bare step.places.now c.args.first.now)) count);
      zero =
          c.serve_both.ensures.zero
          ∙ ((λ i. job_act step.places.now step.arrive.now step.demands.now (index i) (c.loop-at.invariant.zero i))
          ∙ ap (λ (k : ℕ). ran step.places.now step.arrive.now step.demands.now c.args.from k c.args.zero.now) count);
      first_size = c.serve_both.ensures.first_size ∙ c.loop-at.invariant.first_size;
      zero_size = c.serve_both.ensures.zero_size ∙ c.loop-at.invariant.zero_size;
    }
