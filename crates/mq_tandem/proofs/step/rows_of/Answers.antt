use Rattle.std.proofs.Common.{◌+◌, ◌≤◌, length, arith}
use Rattle.mq_tandem.specs.Rows.{zero_row}
use Rattle.mq_tandem.proofs.Rows.{rows-begin, rows-next, rows-end, rows-few}
use Rattle.mq_tandem.proofs.step.rows_of.Goals as goal

pub loop-stage-init : goal.loop-stage-init
loop-stage-init c = rows-begin c.args.places.now c.requires.some

pub overflow_add-rows : goal.overflow_add-rows
overflow_add-rows c =
    let next = rows-next c.args.places.now c.loop-stage.rows c.loop-stage.stage c.get.result.now (zero_row c.args.places.now + 1) c.get.ensures c.loop-stage.invariant in
    let few = rows-few c.args.places.now c.requires.some c.requires.few c.requires.narrow in
    omega arith

pub loop-stage-preserved : goal.loop-stage-preserved
loop-stage-preserved c = rows-next c.args.places.now c.loop-stage.rows c.loop-stage.stage c.get.result.now (zero_row c.args.places.now + 1) c.get.ensures c.loop-stage.invariant

pub returns-clause-all : goal.returns-clause-all
returns-clause-all c =
    let some = c.requires.some in
    let ended : length c.args.places.now ≤ c.loop-stage.stage = omega arith in
    rows-end c.args.places.now c.loop-stage.rows c.loop-stage.stage (zero_row c.args.places.now + 1) ended c.loop-stage.invariant

pub returns-clause-few : goal.returns-clause-few
returns-clause-few c =
    let some = c.requires.some in
    let ended : length c.args.places.now ≤ c.loop-stage.stage = omega arith in
    let all = rows-end c.args.places.now c.loop-stage.rows c.loop-stage.stage (zero_row c.args.places.now + 1) ended c.loop-stage.invariant in
    let few = rows-few c.args.places.now c.requires.some c.requires.few c.requires.narrow in
    omega arith
