use Rattle.std.proofs.Common.{◌∙◌}
use Rattle.mq_trace.proofs.RowFacts.{so_far_all, so_far_none}
use Rattle.mq_trace.proofs.rows.read_rows.Goals as goal

pub take_rows-taken-requires-clause-none : goal.take_rows-taken-requires-clause-none
take_rows-taken-requires-clause-none c =
    let made = c.in_ok-rows.ensures in
    rw (made.source, made.time, made.demands, c.as_slice.ensures) (so_far_none _ _)

pub returns-in-Ok-taken : goal.returns-in-Ok-taken
returns-in-Ok-taken c =
    let so = rw c.in-Ok-taken.is at c.take_rows-taken.ensures.rows in
    (so.clean, c.into_rows.ensures ∙ so_far_all _ _ _ _ _ _ so)
