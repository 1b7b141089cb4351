use Rattle.std.proofs.Common.{arith}
use Rattle.std.proofs.lemmas.Option.{slice_get_within}
use Rattle.mq_engine.proofs.Numbers.{unread-next}
use Rattle.mq_engine.proofs.counting.is_awaited.Goals as goal

pub loop-reader-preserved : goal.loop-reader-preserved
loop-reader-preserved c =
    unread-next c.args.nodes.now c.args.stands.now c.args.node c.loop-reader.reader c.get.result.now _ c.as_slice-inputs.result.now c.awaits.result c.get.ensures (omega arith) c.as_slice-inputs.ensures c.awaits.ensures c.if-awaits.false c.loop-reader.invariant

pub returns : goal.returns
returns c = λ e v port node input there waits b same. c.loop-reader.invariant v port node input (let inside = slice_get_within c.args.nodes.now v node there in omega arith) there waits b same
