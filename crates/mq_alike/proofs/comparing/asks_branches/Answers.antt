use Rattle.std.proofs.Common.{◌∙◌, sym}
use Rattle.std.specs.List.{list_all}
use Rattle.mq_alike.specs.Again.{same_demand}
use Rattle.mq_edits.specs.Former.{rows_before}
use Rattle.mq_alike.proofs.Same.{all-fails, all-more}
use Rattle.mq_alike.proofs.comparing.asks_branches.Goals as goal

pub returns-then-not-asks_each : goal.returns-then-not-asks_each
returns-then-not-asks_each c = sym (all-fails (λ demands. list_all (same_demand (rows_before c.args.former.now c.args.rows.now) c.args.rows.now c.args.job) demands) c.args.branches.now c.loop-at.at c.get.result.now c.get.ensures (sym c.asks_each.ensures ∙ c.if-not-asks_each.true))

pub loop-at-preserved : goal.loop-at-preserved
loop-at-preserved c = all-more (λ demands. list_all (same_demand (rows_before c.args.former.now c.args.rows.now) c.args.rows.now c.args.job) demands) c.args.branches.now c.loop-at.at c.get.result.now c.get.ensures c.loop-at.invariant (sym c.asks_each.ensures ∙ c.if-not-asks_each.false)
