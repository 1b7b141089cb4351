use Rattle.std.proofs.Common.{length}
use Rattle.mq_trace.specs.Records.{Record}
use Rattle.mq_trace.proofs.PlainFacts.{Goes}
use Rattle.mq_trace.proofs.plain.behind_first.Given as goal

abbrev pub invariant-loop-split : goal.invariant-loop-split
invariant-loop-split l = (fields : Record) × Goes l.text fields l.field

abbrev pub decreases-loop-split : goal.decreases-loop-split
decreases-loop-split l = length l.field
