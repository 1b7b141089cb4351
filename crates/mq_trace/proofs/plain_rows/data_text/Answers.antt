use Rattle.mq_trace.proofs.PlainFacts.{first_data, later_data}
use Rattle.mq_trace.proofs.plain_rows.data_text.Goals as goal

pub returns-then-at-eq0 : goal.returns-then-at-eq0
returns-then-at-eq0 c = first_data _ _ c.unmarked-text.result.now _ c.if-at-eq0.true c.unmarked-text.ensures c.behind_first.ensures

pub returns-else-at-eq0 : goal.returns-else-at-eq0
returns-else-at-eq0 c = later_data _ _ c.unmarked-text.result.now c.if-at-eq0.false c.unmarked-text.ensures
