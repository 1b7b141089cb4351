use Rattle.std.proofs.Common.{◌++◌, drop}
use Rattle.mq_outside.specs.Pieces.{pieces_text}
use Rattle.mq_outside.proofs.lemmas.Gathers.{Gathers}
use Rattle.mq_outside.proofs.gather.add_pieces.Given as goal

abbrev pub invariant-loop-piece : goal.invariant-loop-piece
invariant-loop-piece g l =
    Gathers (g.O.Sink.taken l.initial.out) (g.O.Sink.taken l.out) (g.O.Sink.sure l.initial.out) (g.O.Sink.sure l.out)
    (g.O.Sink.faults l.initial.out) (g.O.Sink.faults l.out) (l.initial.pending ++ pieces_text l.pieces) l.pending (pieces_text (drop l.piece-index l.pieces))
