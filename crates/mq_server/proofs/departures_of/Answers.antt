use Rattle.std.proofs.Common.{◌≡◌, ◌∙◌, List, ℕ, length, map}
use Rattle.std.proofs.lemmas.Result.{IfOk-weaker}
use Rattle.mq_maxplus.specs.declared.mp.Mp.TheVariants.{Void}
use Rattle.mq_maxplus.specs.Maxplus.{affine_act, mp_or_zero}
use Rattle.mq_scan.specs.Folds.{carries_after}
use Rattle.mq_core.specs.Recurrences.{lindley}
use Rattle.mq_server.specs.Jobs.{job}
use Rattle.mq_server.proofs.Recurrence.{all-departures}
use Rattle.mq_server.proofs.departures_of.Goals as goal

pub returns : goal.returns
returns c =
    let step = c.args.step.now in
    let arrive = step.arrive.now in
    let demands = step.demands.now in
    IfOk-weaker c.scan_times.result (λ (times : List ℕ). times ≡ map mp_or_zero (carries_after affine_act Void (job arrive demands) 0 (length arrive))) (λ (departs : List ℕ). departs ≡ lindley 0 arrive demands)
    (λ times is. is ∙ all-departures arrive demands step.load) c.scan_times.ensures
