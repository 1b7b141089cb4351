use Rattle.std.proofs.Common.{inl}
use Rattle.mq_trace.proofs.RecordFacts.{takes}
use Rattle.mq_trace.proofs.records.next_record.Goals as goal

pub returns-clause-found : goal.returns-clause-found
returns-clause-found c = let h = c.in-Ok.ensures in takes _ _ _ _ c.requires (inl (h.ready c.requires.trim)) h.flexible (h.reads c.requires.trim c.requires.ready)
