use Rattle.std.proofs.Common.{refl}
use Rattle.mq_trace.specs.Records.{records_at}
use Rattle.mq_trace.proofs.records.text_reader.Goals as goal

pub returns-clause-all : goal.returns-clause-all
unfolding records_at
returns-clause-all c = rw (c.from_reader.ensures.source, c.from_reader.ensures.state) refl
