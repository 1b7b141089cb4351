use Rattle.mq_engine.specs.Apart.{AreGathered}
use Rattle.mq_engine.proofs.gathering.gathered_at.Given as goal

abbrev pub invariant-loop-port : goal.invariant-loop-port
invariant-loop-port l = AreGathered l.arriving.outputs.now l.inputs l.port l.gathered
