use Rattle.std.proofs.Common.{◌≡◌, ◌∙◌, List, [], ℕ, length, map}
use Rattle.std.proofs.lemmas.Result.{IfOk-weaker}
use Rattle.mq_core.specs.Recurrences.{tandem_departs}
use Rattle.mq_maxplus.specs.declared.mp.Mp.{Mp}
use Rattle.mq_maxplus.specs.Maxplus.{mp_or_zero}
use Rattle.mq_maxplus.specs.Matrices.{entry, matrix_act}
use Rattle.mq_scan.specs.Folds.{carries_after}
use Rattle.mq_tandem.specs.Rows.{kept, last_row, job_matrix, none_kept}
use Rattle.mq_tandem.proofs.Recurrence.{all-departures}
use Rattle.mq_tandem.proofs.tandem_departures.Goals as goal

pub returns : goal.returns
returns c =
    let step = c.new.result in
    let arrive = step.arrive.now in
    let demands = step.demands.now in
    let places = step.places.now in
    let is = c.new.ensures in
    let same : tandem_departs places (map (λ _. []) places) arrive demands ≡ tandem_departs c.args.places.now (map (λ _. []) c.args.places.now) c.args.stream.now.time c.args.demands.now =
    λ i. tandem_departs (is.places i) (map (λ _. []) (is.places i)) (is.arrive i) (is.demands i) in
    IfOk-weaker c.scan_times.result
    (λ (times : List ℕ). times ≡ map (λ (carry : List Mp). mp_or_zero (entry carry (last_row (kept places)))) (carries_after matrix_act (none_kept places) (job_matrix places arrive demands) 0 (length arrive)))
    (λ (departs : List ℕ). departs ≡ tandem_departs c.args.places.now (map (λ _. []) c.args.places.now) c.args.stream.now.time c.args.demands.now) (λ times e. e ∙ (all-departures arrive demands places step.load ∙ same)) c.scan_times.ensures
