use Rattle.std.proofs.Common.{◌≡◌, ◌-◌, ◌∙◌, ap, length, arith}
use Rattle.std.specs.Prelude.{slice_get}
use Rattle.mq_tandem.proofs.Rows.{last-index}
use Rattle.mq_tandem.proofs.step.TandemStep.new.Goals as goal

pub overflow_sub-result-2 : goal.overflow_sub-result-2
overflow_sub-result-2 c =
    let here : length c.args.places.now - 1 ≡ c.len.result - 1 = omega arith in
    let last = last-index c.args.places.now c.rows_of-rows.result c.get.result.now c.requires.stages.some c.rows_of-rows.ensures.all (ap (slice_get c.args.places.now) here ∙ c.get.ensures) in
    let inside = last.1 in
    omega arith
