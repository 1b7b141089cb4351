use Rattle.std.proofs.Common.{◌<◌, ◌∙◌, length, set, ap, sym, subst, arith}
use Rattle.mq_maxplus.specs.declared.mp.Mp.{Mp}
use Rattle.mq_maxplus.specs.declared.mp.Mp.TheVariants.{Void, At}
use Rattle.mq_maxplus.specs.Maxplus.{mp_plus, Fits}
use Rattle.mq_tandem.proofs.Mapping.{item-left, mapping-next}
use Rattle.mq_tandem.proofs.likeness.raise.Goals as goal

pub plus-requires : goal.plus-requires
plus-requires c =
    let is = c.get.ensures ∙ item-left Void (mp_plus (At c.args.by)) c.args.rows.now c.loop-row.rows c.loop-row.row c.loop-row.invariant in
    subst (λ (x : Mp). Fits (mp_plus (At c.args.by) x)) (sym is) (c.requires c.loop-row.row)

pub loop-row-preserved : goal.loop-row-preserved
loop-row-preserved c =
    let f = mp_plus (At c.args.by) in
    let is = c.plus.ensures ∙ ap f (c.get.ensures ∙ item-left Void f c.args.rows.now c.loop-row.rows c.loop-row.row c.loop-row.invariant) in
    let many = c.loop-row.invariant.long in
    let inside : c.loop-row.row < length c.loop-row.rows = omega arith in
    mapping-next Void f c.args.rows.now c.loop-row.rows c.set.new.self c.loop-row.row inside (c.set.ensures ∙ ap (set c.loop-row.rows c.loop-row.row) is) c.loop-row.invariant
