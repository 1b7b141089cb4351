use Rattle.std.proofs.Common.{◌≡◌, ◌<◌, ◌≤◌, length, set, ap, ◌∙◌, arith}
use Rattle.mq_maxplus.specs.Maxplus.{mp_max, mp_plus}
use Rattle.mq_maxplus.specs.Matrices.{entry}
use Rattle.mq_maxplus.proofs.Vectors.{covering-next, covering-ends}
use Rattle.mq_maxplus.proofs.vector.Vector.cover.Goals as goal

pub loop-row-preserved : goal.loop-row-preserved
loop-row-preserved c =
    let inside : c.loop-row.row < length c.args.self.now = omega arith in
    let value : c.max.result ≡ mp_max (mp_plus c.args.by (entry c.args.other.now c.loop-row.row)) (entry c.loop-row.self c.loop-row.row) =
    c.max.ensures ∙ (λ i. mp_max ((c.plus.ensures ∙ ap (mp_plus c.args.by) c.get.ensures) i) (c.get-in-loop-row.ensures i)) in
    covering-next _ _ _ _ _ _ c.requires.same inside (c.set.ensures ∙ ap (set c.loop-row.self c.loop-row.row) value) c.loop-row.invariant

pub returns-clause-covered : goal.returns-clause-covered
returns-clause-covered c =
    let ended : length c.args.self.now ≤ c.loop-row.row = omega arith in
    covering-ends _ _ _ _ _ c.requires.same ended c.loop-row.invariant
