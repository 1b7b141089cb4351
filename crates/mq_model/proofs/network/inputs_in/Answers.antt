use Rattle.std.proofs.Common.{[], map}
use Rattle.mq_model.specs.NetworkOf.{input_in}
use Rattle.mq_model.proofs.Lists.{all_are, last_mapped, one_more}
use Rattle.mq_model.proofs.network.inputs_in.Goals as goal

pub loop-read-preserved : goal.loop-read-preserved
loop-read-preserved c = one_more (map (input_in c.args.names.now)) c.args.reads.now c.loop-read.read-index c.read-item.result _ [] _ _ _ c.loop-read.invariant (rw (c.number_in.ensures.at, c.as_slice.ensures) at c.in_ok-push.ensures.ok) c.read-item.is c.loop-read-test.true (λ ys. last_mapped (input_in c.args.names.now) ys c.read-item.result)

pub returns : goal.returns
returns c = all_are (map (input_in c.args.names.now)) c.args.reads.now c.loop-read.read-index [] _ c.loop-read.invariant c.loop-read-test.false
