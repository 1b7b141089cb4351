use Rattle.std.proofs.Common.{length, arith}
use Rattle.mq_counts.proofs.Lists.{all-done, all-more}
use Rattle.mq_counts.specs.Leaving.{IsExitIn}
use Rattle.mq_counts.specs.Seen.{streams_in}
use Rattle.mq_counts.proofs.leaving.NodeStreamsPieces.piece.Goals as goal

pub loop-output-preserved : goal.loop-output-preserved
loop-output-preserved c = all-more (IsExitIn c.args.self.now c.args.b) c.loop-output.output c.loop-output.exits.items _ c.exit_in.result c.loop-output.invariant c.exit_in.ensures c.push_reserved.ensures.items

pub returns : goal.returns
returns c = all-done (IsExitIn c.args.self.now c.args.b) c.loop-output.output (length (streams_in c.args.self.now.streams)) c.loop-output.exits.items c.from_vec.result c.loop-output.invariant (omega arith) c.from_vec.ensures
