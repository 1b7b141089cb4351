use Rattle.std.proofs.Common.{◌≡◌, ◌+◌, ◌-◌, ◌∙◌, List, ℕ, All, length, map, ap, sym, subst, arith}
use Rattle.std.proofs.lemmas.List.{length-map}
use Rattle.mq_maxplus.specs.declared.mp.Mp.{Mp}
use Rattle.mq_tandem.specs.Rows.{ran, RunFits}
use Rattle.mq_tandem.proofs.Columns.{job-size}
use Rattle.mq_tandem.proofs.Running.{all-fit, all-sized, append-each, extend-ends, fit-each, same-each}
use Rattle.mq_tandem.proofs.step.TandemStepStep.extend.Goals as goal

pub loop-at-init : goal.loop-at-init
loop-at-init c =
    let step = c.args.self.now in
    let none : 0 ≡ c.args.from - c.args.from = omega arith in
    record {
      ran =
          same-each step.places.now step.arrive.now step.demands.now c.args.from c.args.sum.now
          ∙ ap (λ (n : ℕ). map (ran step.places.now step.arrive.now step.demands.now c.args.from n) c.args.sum.now) none;
      begun = omega arith;
      inside = c.requires.order;
    }

pub run_each-requires-clause-size : goal.run_each-requires-clause-size
run_each-requires-clause-size c =
    let step = c.args.self.now in
    let n = c.loop-at.at - c.args.from in
    let begun = c.loop-at.invariant.begun in
    let can = c.requires.can 0 (omega arith) in
    ap length c.loop-at.invariant.ran
    ∙ (length-map c.args.sum.now (ran step.places.now step.arrive.now step.demands.now c.args.from n)
    ∙ (can.same ∙ (job-size step.places.now step.arrive.now step.demands.now (c.args.from + 0) ∙ sym step.all_rows)))

pub run_each-requires-clause-fits : goal.run_each-requires-clause-fits
run_each-requires-clause-fits c =
    let step = c.args.self.now in
    let places = step.places.now in
    let arrive = step.arrive.now in
    let demands = step.demands.now in
    let from = c.args.from in
    let old = c.args.sum.now in
    let n = c.loop-at.at - from in
    let m = c.run_end-end.result - c.loop-at.at in
    let begun = c.loop-at.invariant.begun in
    let more = c.run_end-end.ensures.more in
    let within = c.run_end-end.ensures.within in
    let sized = all-sized places arrive demands old (from + 0) (job-size places arrive demands (from + 0)) (c.requires.can 0 (omega arith)) in
    let fit = all-fit places arrive demands old from (c.args.to - from) sized (λ k l. c.requires.can k (omega (arith, l))) in
    let index : from + n ≡ c.loop-at.at = omega arith in
    subst (λ (z : ℕ × List (List Mp)). All (RunFits places arrive demands z.0 m) z.1) (λ i. (index i, sym c.loop-at.invariant.ran i)) (fit-each places arrive demands from n m (c.args.to - from) old (omega arith) fit)

pub loop-at-preserved : goal.loop-at-preserved
loop-at-preserved c =
    let step = c.args.self.now in
    let places = step.places.now in
    let arrive = step.arrive.now in
    let demands = step.demands.now in
    let from = c.args.from in
    let n = c.loop-at.at - from in
    let m = c.run_end-end.result - c.loop-at.at in
    let begun = c.loop-at.invariant.begun in
    let more = c.run_end-end.ensures.more in
    let within = c.run_end-end.ensures.within in
    let index : c.loop-at.at ≡ from + n = omega arith in
    let count : n + m ≡ c.run_end-end.result - from = omega arith in
    record {
      ran =
          c.run_each.ensures.ran
          ∙ ((λ i. map (ran places arrive demands (index i) m) (c.loop-at.invariant.ran i))
          ∙ (append-each places arrive demands from n m c.args.sum.now ∙ ap (λ (k : ℕ). map (ran places arrive demands from k) c.args.sum.now) count));
      begun = omega arith;
      inside = within;
    }

pub returns : goal.returns
returns c =
    let step = c.args.self.now in
    let places = step.places.now in
    let arrive = step.arrive.now in
    let demands = step.demands.now in
    let from = c.args.from in
    let inside = c.loop-at.invariant.inside in
    let begun = c.loop-at.invariant.begun in
    let ended : c.loop-at.at ≡ c.args.to = omega arith in
    extend-ends places arrive demands from (c.args.to - from) c.args.sum.now c.loop-at.sum
    (λ l. all-sized places arrive demands c.args.sum.now (from + 0) (job-size places arrive demands (from + 0)) (c.requires.can 0 (omega (arith, l)))) (c.loop-at.invariant.ran ∙ ap (λ (k : ℕ). map (ran places arrive demands from (k - from)) c.args.sum.now) ended)
