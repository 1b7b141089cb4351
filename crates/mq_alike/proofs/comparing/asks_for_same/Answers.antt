use Rattle.mq_edits.specs.Former.{rows_before}
use Rattle.mq_alike.proofs.Same.{told-branches, told-stages}
use Rattle.mq_alike.proofs.comparing.asks_for_same.Goals as goal

pub asks_stages-requires-clause-earlier : goal.asks_stages-requires-clause-earlier
asks_stages-requires-clause-earlier c = told-stages (rows_before c.args.former.now c.args.rows.now) c.args.kind.now c.in-Tandem.stages c.args.job c.requires.earlier c.in-Tandem.is

pub asks_stages-requires-clause-rows : goal.asks_stages-requires-clause-rows
asks_stages-requires-clause-rows c = told-stages c.args.rows.now c.args.kind.now c.in-Tandem.stages c.args.job c.requires.rows c.in-Tandem.is

pub asks_branches-requires-clause-earlier : goal.asks_branches-requires-clause-earlier
asks_branches-requires-clause-earlier c = told-branches (rows_before c.args.former.now c.args.rows.now) c.args.kind.now c.in-ForkJoin.branches c.args.job c.requires.earlier c.in-ForkJoin.is

pub asks_branches-requires-clause-rows : goal.asks_branches-requires-clause-rows
asks_branches-requires-clause-rows c = told-branches c.args.rows.now c.args.kind.now c.in-ForkJoin.branches c.args.job c.requires.rows c.in-ForkJoin.is
