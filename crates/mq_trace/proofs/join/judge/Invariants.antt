use Rattle.std.proofs.Common.{◌≤◌, List, ℕ}
use Rattle.mq_trace.specs.Pieces.{AreReadApart}
use Rattle.mq_trace.specs.Trace.{header_of, text_records}
use Rattle.mq_trace.proofs.JoinFacts.{AreJudged}
use Rattle.mq_trace.proofs.join.judge.Given as goal

abbrev pub invariant-loop-piece : goal.invariant-loop-piece
invariant-loop-piece l = record {
  most : l.before ≤ 1048576;
  judged : (text : List ℕ) (are : AreReadApart l.net text l.read) → AreJudged l.net (header_of (text_records text)) are.pieces l.read l.piece-index l.before;
}
