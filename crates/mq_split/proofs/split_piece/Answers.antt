use Rattle.std.proofs.Common.{List, ℕ, length, ap, subst, arith}
use Rattle.mq_base.proofs.lemmas.Between.{length-between}
use Rattle.mq_split.specs.Outs.{ArePartsBetween}
use Rattle.mq_split.proofs.split_piece.Goals as goal

pub split_between-requires-clause-values : goal.split_between-requires-clause-values
split_between-requires-clause-values c =
    let part = ap length c.part-own.ensures in
    let order = c.requires.order in
    let long = length-between c.args.values.now c.args.from c.args.to c.requires.order c.requires.within in
    omega arith

pub returns : goal.returns
returns c = subst (λ (values : List ℕ). ArePartsBetween c.args.route.now c.args.stream.now values c.args.from c.args.to c.in_ok-streams.streams) c.part-own.ensures c.in_ok-streams.ensures
