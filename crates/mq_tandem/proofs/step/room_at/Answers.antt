use Rattle.std.proofs.Common.{◌∙◌, ap, length, sym, arith}
use Rattle.mq_maxplus.specs.Maxplus.{mp_or_zero}
use Rattle.mq_tandem.proofs.Rows.{room-there, room-inside}
use Rattle.mq_tandem.proofs.step.room_at.Goals as goal

pub get-requires-then-stage-len : goal.get-requires-then-stage-len
get-requires-then-stage-len c =
    let inside = room-inside c.args.places.now c.args.stage c.get.result.now c.args.row (length c.args.latest.now) c.get.ensures c.requires.room c.requires.inside in
    let some = inside.0 in
    let less = inside.1 in
    omega arith

pub returns-then-stage-len : goal.returns-then-stage-len
returns-then-stage-len c = ap mp_or_zero (sym c.get-then-stage-len.ensures ∙ room-there c.args.places.now c.args.latest.now c.args.stage c.get.result.now c.args.row c.get.ensures)

pub overflow_add-row : goal.overflow_add-row
overflow_add-row c =
    let inside = room-inside c.args.places.now c.args.stage c.get.result.now c.args.row (length c.args.latest.now) c.get.ensures c.requires.room c.requires.inside in
    let less = inside.1 in
    let few = c.requires.few in
    omega arith
