use Rattle.mq_counts.proofs.Exits.{AreReadTo}
use Rattle.mq_counts.specs.Seen.{streams_in}
use Rattle.mq_counts.proofs.leaving.node_streams.Given as goal

-- the outputs so far
abbrev pub invariant-loop-output : goal.invariant-loop-output
invariant-loop-output l = AreReadTo l.nodes l.sequences.number (streams_in l.streams) l.output l.all_read.items l.most
