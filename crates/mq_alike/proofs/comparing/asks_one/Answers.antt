use Rattle.std.proofs.Common.{◌∙◌, ◌==◌, sym}
use Rattle.mq_alike.proofs.Former.{demand_behind, told_behind}
use Rattle.mq_alike.proofs.comparing.asks_one.Goals as goal

pub demand_of-requires : goal.demand_of-requires
demand_of-requires c = told_behind c.args.former.now c.args.rows.now c.args.job c.args.demand.now c.requires.set c.requires.earlier c.requires.rows

pub returns : goal.returns
returns c =
    let same = demand_behind c.args.former.now c.args.rows.now c.args.job c.args.demand.now c.requires.set c.requires.earlier c.requires.rows in
    (λ i. (c.demand_of.ensures ∙ sym same) i == c.demand_of-2.ensures i)
