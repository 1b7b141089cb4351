use Rattle.std.proofs.Common.{map}
use Rattle.mq_exits.specs.Turns.{result_given}
use Rattle.mq_engine.specs.Counting.{AreWaveSequences}
use Rattle.mq_engine.proofs.told.all_sequences.Given as goal

-- those so far
abbrev pub invariant-loop-at : goal.invariant-loop-at
invariant-loop-at l = AreWaveSequences l.plan l.rows (map result_given l.given) l.at l.all
