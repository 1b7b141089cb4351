use Rattle.mq_counts.specs.Leaving.{AreNodeStreams}
use Rattle.mq_counts.proofs.leaving.all_streams.Given as goal

-- the nodes so far
abbrev pub invariant-loop-at : goal.invariant-loop-at
invariant-loop-at l = AreNodeStreams l.nodes l.rows l.all l.at l.streams
