use Rattle.std.proofs.Common.{length}
use Rattle.mq_outside.proofs.Puts.{Putting}
use Rattle.mq_outside.proofs.write.put_all.Given as goal

abbrev pub invariant-loop-rest : goal.invariant-loop-rest
invariant-loop-rest g l =
    Putting (g.O.Sink.taken l.initial.out) (g.O.Sink.taken l.out) (g.O.Sink.sure l.initial.out) (g.O.Sink.sure l.out)
    (g.O.Sink.faults l.initial.out) (g.O.Sink.faults l.out) l.bytes l.rest

abbrev pub decreases-loop-rest : goal.decreases-loop-rest
decreases-loop-rest g l = length l.rest
