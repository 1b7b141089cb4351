use Rattle.std.proofs.Common.{◌+◌, arith, refl, sym}
use Rattle.mq_maxplus.specs.declared.mp.Mp.TheVariants.{At}
use Rattle.mq_tandem.proofs.Putting.{putting-at, putting-begins, putting-ends, putting-next}
use Rattle.mq_tandem.proofs.latest.Latest.put.Goals as goal

pub returns-then-kept-eq1-clause-put : goal.returns-then-kept-eq1-clause-put
returns-then-kept-eq1-clause-put c =
    let first = putting-next _ _ _ _ _ _ _ _ (omega arith) (omega arith) (sym c.replaced-second.ensures.earlier) c.replaced-second.ensures.set (putting-begins (At c.args.time) c.args.self.now c.args.row) in
    putting-ends _ _ _ _ _ _ c.args.behind (omega arith) first

pub returns-then-kept-eq2-clause-put : goal.returns-then-kept-eq2-clause-put
returns-then-kept-eq2-clause-put c =
    let first = putting-next _ _ _ _ _ _ _ _ (omega arith) (omega arith) (sym c.replaced-second.ensures.earlier) c.replaced-second.ensures.set (putting-begins (At c.args.time) c.args.self.now c.args.row) in
    let second = putting-next _ _ _ _ _ _ _ _ (omega arith) (omega arith) (sym c.replaced-third.ensures.earlier) c.replaced-third.ensures.set first in
    putting-ends _ _ _ _ _ _ c.args.behind (omega arith) second

pub returns-then-kept-eq3-clause-put : goal.returns-then-kept-eq3-clause-put
returns-then-kept-eq3-clause-put c =
    let first = putting-next _ _ _ _ _ _ _ _ (omega arith) (omega arith) (sym c.replaced-second.ensures.earlier) c.replaced-second.ensures.set (putting-begins (At c.args.time) c.args.self.now c.args.row) in
    let second = putting-next _ _ _ _ _ _ _ _ (omega arith) (omega arith) (sym c.replaced-third.ensures.earlier) c.replaced-third.ensures.set first in
    let third = putting-next _ _ _ _ _ _ _ _ (omega arith) (omega arith) (sym c.replaced-fourth.ensures.earlier) c.replaced-fourth.ensures.set (putting-at _ _ _ _ _ _ (c.args.row + 2) (omega arith) second) in
    putting-ends _ _ _ _ _ _ c.args.behind (omega arith) third

pub returns-clause-put : goal.returns-clause-put
returns-clause-put c =
    let first = putting-next _ _ _ _ _ _ _ _ (omega arith) (omega arith) (sym c.replaced-second.ensures.earlier) c.replaced-second.ensures.set (putting-begins (At c.args.time) c.args.self.now c.args.row) in
    let second = putting-next _ _ _ _ _ _ _ _ (omega arith) (omega arith) (sym c.replaced-third.ensures.earlier) c.replaced-third.ensures.set first in
    let third = putting-next _ _ _ _ _ _ _ _ (omega arith) (omega arith) (sym c.replaced-fourth.ensures.earlier) c.replaced-fourth.ensures.set (putting-at _ _ _ _ _ _ (c.args.row + 2) (omega arith) second) in
    let fourth = putting-next _ _ _ _ _ _ _ _ (omega arith) (omega arith) refl c.set.ensures (putting-at _ _ _ _ _ _ (c.args.row + 3) (omega arith) third) in
    putting-ends _ _ _ _ _ _ c.args.behind (omega arith) fourth
