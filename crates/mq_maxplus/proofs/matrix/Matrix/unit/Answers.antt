use Rattle.std.proofs.Common.{List, set, replicate, ap, ◌∙◌, arith}
use Rattle.mq_maxplus.specs.declared.mp.Mp.{Mp}
use Rattle.mq_maxplus.specs.declared.mp.Mp.TheVariants.{At}
use Rattle.mq_maxplus.proofs.Columns.{uniting-begins, uniting-next, uniting-padded, uniting-ends}
use Rattle.mq_maxplus.proofs.matrix.Matrix.unit.Goals as goal

pub loop-index-init : goal.loop-index-init
loop-index-init c = uniting-begins c.args.size _ (ap (λ (column : List Mp). replicate 16 column) c.new-columns.ensures)

pub loop-index-preserved : goal.loop-index-preserved
loop-index-preserved c =
    let inside = c.loop-index-test.true in
    uniting-next _ _ _ _ c.requires.few inside (ap (set c.loop-index.columns c.loop-index.index) (c.set.ensures ∙ ap (λ (column : List Mp). set column c.loop-index.index (At 0)) c.new-column.ensures)) c.loop-index.invariant

pub invariant_of-result : goal.invariant_of-result
invariant_of-result c = uniting-padded _ _ c.loop-index.index c.requires.some c.requires.few (omega arith) c.loop-index.invariant

pub returns : goal.returns
returns c = uniting-ends _ _ c.loop-index.index (omega arith) c.loop-index.invariant
