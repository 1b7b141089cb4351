use Rattle.std.proofs.Common.{◌≡◌, ◌∙◌, ap, arith, replicate}
use Rattle.mq_join.proofs.Forks.{forked}
use Rattle.mq_join.proofs.copies.fork_copies.Goals as goal

pub returns-clause-copies : goal.returns-clause-copies
returns-clause-copies c =
    let ended : c.loop.counter ≡ c.args.outputs = omega arith in
    c.loop.invariant ∙ ap (λ n. replicate n c.args.stream.now) ended

pub returns-clause-leaving : goal.returns-clause-leaving
returns-clause-leaving c =
    let ended : c.loop.counter ≡ c.args.outputs = omega arith in
    forked c.args.stream.now c.args.outputs c.loop.streams (c.loop.invariant ∙ ap (λ n. replicate n c.args.stream.now) ended)
