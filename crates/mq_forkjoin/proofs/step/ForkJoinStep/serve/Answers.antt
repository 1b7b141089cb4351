use Rattle.std.proofs.Common.{◌≡◌, ◌∙◌, ◌+◌, ◌<◌, ◌≤◌, ◌^◌, ◌++◌, [], ℕ, Bool, true, false, cond, List, length, get_or, take, drop, max, ap, arith, Some, slice_get, sym, subst}
use Rattle.std.specs.Prelude.{All}
use Rattle.std.proofs.lemmas.List.{length-set}
use Rattle.std.proofs.lemmas.Option.{get_or_from_slice_get, slice_get-get_or}
use Rattle.mq_forkjoin.specs.Runs.{asked_at, job_run}
use Rattle.mq_forkjoin.proofs.Serving.{asked-get, run-ended, run-fits, run-step}
use Rattle.mq_forkjoin.proofs.step.ForkJoinStep.serve.Goals as goal
use Rattle.mq_forkjoin.proofs.step.ForkJoinStep.serve.Goals.{else-get, then-get}

pub overflow_add-time : goal.overflow_add-time
overflow_add-time c =
    let self = c.args.self.now in
    let column = c.get-in-loop-server.result.now in
    let came = c.get-came.result.now in
    let server = c.loop-server.server in
    let now = c.loop-server.last in
    let arrive : get_or self.arrive.now c.args.at 0 ≡ came = get_or_from_slice_get self.arrive.now c.args.at came 0 c.get-came.ensures in
    let begun : c.if-get.begun ≡ cond c.get.result.now came c.loop-server.time = elim c.if-get.branch [ then-get w ↦ w.begun-is ∙ sym (ap (λ b. cond b came c.loop-server.time) w.if-get.true) | else-get w ↦ w.begun-is ∙ sym (ap (λ b. cond b came c.loop-server.time) w.if-get.false) ] in
    let demand : get_or column c.args.at 0 ≡ c.at.result = get_or_from_slice_get column c.args.at c.at.result 0 c.at.ensures in
    let long = c.loop-server.invariant.long in
    let servers = self.load.servers in
    let l = c.loop-server-test.true in
    let end = c.len-server-end.ensures in
    let inside : server < length now = omega arith in
    let later = c.max.ensures in
    let fits = run-fits came self.begins.now (asked_at self.demands.now c.args.at) c.args.last.now _ server c.loop-server.time now c.get.result.now (get_or column c.args.at 0) (get_or now server 0) c.get.ensures (asked-get self.demands.now c.args.at server column c.get-in-loop-server.ensures) (slice_get-get_or now server 0 inside) c.loop-server.invariant.run
    (subst (λ (t : ℕ). All (λ time. time < 2 ^ 64) (job_run t 0 self.begins.now (asked_at self.demands.now c.args.at) c.args.last.now)) arrive c.requires.fits) in
    let same : c.max.result + c.at.result ≡ max (cond c.get.result.now came c.loop-server.time) (get_or now server 0) + get_or column c.args.at 0 = (λ i. (later ∙ ap (λ (t : ℕ). max t (get_or now server 0)) begun) i + sym demand i) in
    omega (arith, fits, same)

pub loop-server-preserved : goal.loop-server-preserved
loop-server-preserved c =
    let self = c.args.self.now in
    let column = c.get-in-loop-server.result.now in
    let came = c.get-came.result.now in
    let server = c.loop-server.server in
    let now = c.loop-server.last in
    let begun : c.if-get.begun ≡ cond c.get.result.now came c.loop-server.time = elim c.if-get.branch [ then-get w ↦ w.begun-is ∙ sym (ap (λ b. cond b came c.loop-server.time) w.if-get.true) | else-get w ↦ w.begun-is ∙ sym (ap (λ b. cond b came c.loop-server.time) w.if-get.false) ] in
    let demand : get_or column c.args.at 0 ≡ c.at.result = get_or_from_slice_get column c.args.at c.at.result 0 c.at.ensures in
    let long = c.loop-server.invariant.long in
    let servers = self.load.servers in
    let l = c.loop-server-test.true in
    let end = c.len-server-end.ensures in
    let inside : server < length now = omega arith in
    let later = c.max.ensures in
    let same : c.max.result + c.at.result ≡ max (cond c.get.result.now came c.loop-server.time) (get_or now server 0) + get_or column c.args.at 0 = (λ i. (later ∙ ap (λ (t : ℕ). max t (get_or now server 0)) begun) i + sym demand i) in
    record {
      long = length-set now server _ ∙ long;
      run = run-step came self.begins.now (asked_at self.demands.now c.args.at) c.args.last.now _ server c.loop-server.time now c.get.result.now (get_or column c.args.at 0) (get_or now server 0) _ c.get.ensures (asked-get self.demands.now c.args.at server column c.get-in-loop-server.ensures) (slice_get-get_or now server 0 inside) inside same c.loop-server.invariant.run;
    }

pub returns : goal.returns
returns c =
    let self = c.args.self.now in
    let came = c.get-came.result.now in
    let arrive : get_or self.arrive.now c.args.at 0 ≡ came = get_or_from_slice_get self.arrive.now c.args.at came 0 c.get-came.ensures in
    let end = c.len-server-end.ensures in
    let l = c.loop-server-test.false in
    run-ended came self.begins.now (asked_at self.demands.now c.args.at) c.loop-server.last _ c.loop-server.server c.loop-server.time (omega arith) c.loop-server.invariant.run ∙ ap (λ (t : ℕ). job_run t 0 self.begins.now (asked_at self.demands.now c.args.at) c.args.last.now) (sym arrive)
