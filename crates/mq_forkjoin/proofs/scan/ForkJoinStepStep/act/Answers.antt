use Rattle.std.proofs.Common.{◌≡◌, ◌∙◌, ◌+◌, ◌-◌, ◌<◌, ◌^◌, ℕ, List, suc, get_or, ap, arith, sym, subst}
use Rattle.std.specs.Prelude.{All}
use Rattle.mq_forkjoin.specs.Runs.{asked_at, job_run, range_run}
use Rattle.mq_forkjoin.proofs.scan.ForkJoinStepStep.act.Goals as goal

pub serve-requires-clause-fits : goal.serve-requires-clause-fits
serve-requires-clause-fits c =
    let s = c.args.s in
    let begun = c.loop-at.invariant.begun in
    let l = c.loop-at-test.true in
    let n = c.loop-at.at - s.from in
    let index : s.from + n ≡ c.loop-at.at = omega arith in
    subst (All (λ time. time < 2 ^ 64)) (λ i. job_run (get_or s.step.arrive.now (index i) 0) 0 s.step.begins.now (asked_at s.step.demands.now (index i)) (sym c.loop-at.invariant.run i)) (c.requires.fits (suc n) (omega arith))
