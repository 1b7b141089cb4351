use Rattle.std.proofs.Common.{sym, ◌∙◌}
use Rattle.mq_counts.proofs.Staying.{totals-later}
use Rattle.mq_counts.proofs.later.held_stay_on.Goals as goal

pub returns : goal.returns
returns c = λ rows kind visits last span are low l. totals-later rows kind visits last span (are.fates ∙ sym are.arrives) low l
