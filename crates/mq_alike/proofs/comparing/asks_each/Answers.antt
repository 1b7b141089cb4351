use Rattle.std.proofs.Common.{◌∙◌, sym}
use Rattle.mq_alike.specs.Again.{same_demand}
use Rattle.mq_edits.specs.Former.{rows_before}
use Rattle.mq_alike.proofs.Same.{all-fails, all-more}
use Rattle.mq_alike.proofs.comparing.asks_each.Goals as goal

pub returns-then-not-asks_one : goal.returns-then-not-asks_one
returns-then-not-asks_one c = sym (all-fails (same_demand (rows_before c.args.former.now c.args.rows.now) c.args.rows.now c.args.job) c.args.demands.now c.loop-at.at c.get.result.now c.get.ensures (sym c.asks_one.ensures ∙ c.if-not-asks_one.true))

pub loop-at-preserved : goal.loop-at-preserved
loop-at-preserved c = all-more (same_demand (rows_before c.args.former.now c.args.rows.now) c.args.rows.now c.args.job) c.args.demands.now c.loop-at.at c.get.result.now c.get.ensures c.loop-at.invariant (sym c.asks_one.ensures ∙ c.if-not-asks_one.false)
