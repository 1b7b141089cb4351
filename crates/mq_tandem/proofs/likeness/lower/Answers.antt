use Rattle.std.proofs.Common.{◌<◌, ◌∙◌, length, set, ap, arith}
use Rattle.mq_maxplus.specs.declared.mp.Mp.TheVariants.{Void}
use Rattle.mq_tandem.specs.Rows.{mp_minus}
use Rattle.mq_tandem.proofs.Mapping.{item-left, mapping-next}
use Rattle.mq_tandem.proofs.likeness.lower.Goals as goal

pub loop-row-preserved : goal.loop-row-preserved
loop-row-preserved c =
    let f = mp_minus c.args.by in
    let is = c.less.ensures ∙ ap f (c.get.ensures ∙ item-left Void f c.args.rows.now c.loop-row.rows c.loop-row.row c.loop-row.invariant) in
    let many = c.loop-row.invariant.long in
    let inside : c.loop-row.row < length c.loop-row.rows = omega arith in
    mapping-next Void f c.args.rows.now c.loop-row.rows c.set.new.self c.loop-row.row inside (c.set.ensures ∙ ap (set c.loop-row.rows c.loop-row.row) is) c.loop-row.invariant
