use Rattle.std.proofs.Common.{sym, ◌∙◌, ◌≤◌, ◌+◌, subst}
use Rattle.mq_stats.proofs.Passing.{none-more, one-passed, up_to}
use Rattle.mq_stats.proofs.pieces.one_if_passed.Goals as goal

pub returns-then-index-departs-clause-least : goal.returns-then-index-departs-clause-least
returns-then-index-departs-clause-least c =
    subst (λ n. c.args.index + n ≤ up_to c.args.time c.args.departs.now) (sym c.one_if_at_most.ensures) (one-passed c.args.time c.args.departs.now c.args.index c.requires.order c.if-index-departs.true c.requires.index)

pub returns-then-index-departs-clause-most : goal.returns-then-index-departs-clause-most
returns-then-index-departs-clause-most c = λ z. none-more c.args.time c.args.departs.now c.args.index c.requires.order c.if-index-departs.true (sym c.one_if_at_most.ensures ∙ z)
