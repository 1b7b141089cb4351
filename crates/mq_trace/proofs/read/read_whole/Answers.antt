use Rattle.std.proofs.Common.{rules, false, ◌≡◌}
use Rattle.mq_trace.specs.Trace.{text_records}
use Rattle.mq_trace.proofs.RowFacts.{no_header}
use Rattle.mq_trace.proofs.read.read_whole.Goals as goal

pub returns-in-Ok-false : goal.returns-in-Ok-false
returns-in-Ok-false c = λ _.
    let gone : c.in-Ok-false.field-0 ≡ false = search rules in
    no_header c.args.net.now (text_records c.args.text.now) (rw gone at c.in-Ok-false.ensures.found)
