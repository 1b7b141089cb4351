use Rattle.std.proofs.Common.{◌≡◌, ◌∙◌, ◌≤◌, ap, length, subst, sym, arith}
use Rattle.std.specs.Prelude.{All, replicate}
use Rattle.mq_core.specs.Sequences.{IsSoundLoad}
use Rattle.mq_forkjoin.specs.Bounds.{fold-is}
use Rattle.mq_forkjoin.specs.Fronts.{jobs_act, one_job}
use Rattle.mq_forkjoin.specs.Runs.{range_run}
use Rattle.mq_forkjoin.specs.Servers.{servers_of}
use Rattle.mq_forkjoin.proofs.Carries.{all-departures}
use Rattle.mq_forkjoin.proofs.laws.carries_hold_departures.Goals as goal

pub returns : goal.returns
returns c = λ branches demands begins some.
    let step = c.args.step.now in
    let arrive = step.arrive.now in
    let load = step.load in
    let servers = load.servers in
    let each = load.each in
    let same = ap length demands in
    let few : length (servers_of branches) ≤ 8 = omega arith in
    all-departures jobs_act (one_job step) arrive branches (λ n. fold-is step n ∙ (λ i. range_run arrive (begins i) (demands i) 0 n (replicate 8 0))) (subst (All (λ column. IsSoundLoad arrive column)) demands load.columns) few some
