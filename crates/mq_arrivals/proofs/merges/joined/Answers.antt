use Rattle.std.proofs.Common.{◌≡◌, length, subst, arith, rules}
use Rattle.mq_arrivals.specs.Merges.{IsBlockOf}
use Rattle.mq_arrivals.proofs.Comings.{single-block}
use Rattle.mq_arrivals.proofs.merges.joined.Goals as goal

pub returns-then-len-eq1 : goal.returns-then-len-eq1
returns-then-len-eq1 c pairs n all =
    let blocks = c.args.blocks.now in
    let stream = c.alone.result in
    let count : length c.args.group ≡ blocks.blocks = search rules in
    let single : length c.args.group ≡ 1 = search rules in
    single-block pairs blocks stream (omega arith) n (subst (IsBlockOf pairs blocks 0) (c.alone.ensures stream) (all.each 0 stream (omega arith)))

pub returns : goal.returns
returns c = c.behind-stream.ensures
