use Rattle.std.proofs.Common.{◌∙◌, sym, ap, rules}
use Rattle.mq_core.specs.Streams.{by_first}
use Rattle.mq_merge.proofs.Merging.{by_first-rises}
use Rattle.mq_arrivals.proofs.rows.rows_by_time.Goals as goal

pub returns-then-rises-clause-items : goal.returns-then-rises-clause-items
returns-then-rises-clause-items c =
    let rows = c.in_ok-rows.rows in
    sym (by_first-rises rows.time rows.job (c.rises.ensures (search rules))) ∙ ap by_first c.in_ok-rows.ensures.items
