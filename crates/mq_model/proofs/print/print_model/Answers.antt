use Rattle.std.proofs.Common.{◌∙◌, [], map}
use Rattle.std.specs.List.{flat_map}
use Rattle.mq_model.specs.Printed.{line_text, printed, said_words}
use Rattle.mq_model.specs.SaidOf.{names_in, node_by}
use Rattle.mq_model.proofs.Lists.{all_are, one_more}
use Rattle.mq_model.proofs.SpacedWords.{last_part, printed_head, printed_nodes}
use Rattle.mq_model.proofs.print.print_model.Goals as goal

pub loop-node-init : goal.loop-node-init
loop-node-init c = c.in_ok-push_head.ensures ∙ printed_head c.args.plan.now.net.version c.args.plan.now.net.bound c.new-text.result.items c.new-text.ensures.items

pub loop-node-preserved : goal.loop-node-preserved
loop-node-preserved c =
    let net = c.args.plan.now.net in
    one_more (λ ys. flat_map line_text (map said_words (map (node_by (names_in net) net.columns) ys))) net.nodes c.loop-node.node-index c.node-item.result _ (printed (record { nodes = []; columns = []; bound = net.bound; version = net.version })) c.loop-node.text.items _ _
    c.loop-node.invariant c.in_ok-push_node.ensures (rw c.as_slice-node-items.ensures at c.node-item.is) (rw c.as_slice-node-items.ensures at c.loop-node-test.true) (λ ys. last_part line_text said_words (node_by (names_in net) net.columns) ys c.node-item.result)

pub returns : goal.returns
returns c =
    let net = c.args.plan.now.net in
    c.from_vec.ensures
    ∙ all_are (λ ys. flat_map line_text (map said_words (map (node_by (names_in net) net.columns) ys))) net.nodes c.loop-node.node-index (printed (record { nodes = []; columns = []; bound = net.bound; version = net.version })) c.loop-node.text.items
    c.loop-node.invariant (rw c.as_slice-node-items.ensures at c.loop-node-test.false)
    ∙ printed_nodes net
