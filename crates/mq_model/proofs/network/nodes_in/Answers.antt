use Rattle.std.proofs.Common.{[]}
use Rattle.std.specs.List.{flat_map}
use Rattle.mq_model.specs.NetworkOf.{nodes_in}
use Rattle.mq_model.proofs.Lists.{all_are, last_told, one_more}
use Rattle.mq_model.proofs.network.nodes_in.Goals as goal

pub loop-said-preserved : goal.loop-said-preserved
loop-said-preserved c = one_more (flat_map (nodes_in c.args.names.now c.args.columns.now)) c.args.saids.now c.loop-said.said-index c.said-item.result _ [] _ _ _ c.loop-said.invariant c.in_ok-add_node.ensures c.said-item.is c.loop-said-test.true (λ ys. last_told (nodes_in c.args.names.now c.args.columns.now) ys c.said-item.result)

pub returns : goal.returns
returns c = all_are (flat_map (nodes_in c.args.names.now c.args.columns.now)) c.args.saids.now c.loop-said.said-index [] _ c.loop-said.invariant c.loop-said-test.false
