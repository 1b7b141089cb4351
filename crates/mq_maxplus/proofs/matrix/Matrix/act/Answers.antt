use Rattle.std.proofs.Common.{◌≡◌, ◌+◌, ◌-◌, arith, subst}
use Rattle.mq_maxplus.proofs.Columns.{acting-next, acting-ends, square-view, may-cover, Acting}
use Rattle.mq_maxplus.proofs.matrix.Matrix.act.Goals as goal

pub cover-requires-clause-sums : goal.cover-requires-clause-sums
cover-requires-clause-sums c = may-cover _ _ _ _ _ c.requires c.column.ensures.item c.get.ensures

pub loop-index-preserved : goal.loop-index-preserved
loop-index-preserved c =
    let back : c.loop-index.index ≡ c.loop-index.index - 1 + 1 = omega arith in
    let was = subst (Acting c.args.self.now c.args.on.now c.loop-index.all) back c.loop-index.invariant in
    acting-next _ _ _ _ _ _ _ c.column.ensures.item c.get.ensures c.requires.same c.column.ensures.size c.cover.ensures.covered was

pub returns-clause-acted : goal.returns-clause-acted
returns-clause-acted c =
    let fields = c.self.inside in
    let whole = square-view fields.size fields.columns c.args.self.now c.self.invariant c.self.view_is in
    let long = whole.0 in
    let some = c.self.invariant.some in
    let none : c.loop-index.index ≡ 0 = omega arith in
    acting-ends _ _ _ c.requires.same (omega arith) whole.1 (subst (Acting c.args.self.now c.args.on.now c.loop-index.all) none c.loop-index.invariant)
