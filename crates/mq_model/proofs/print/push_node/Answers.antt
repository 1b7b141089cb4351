use Rattle.std.proofs.Common.{◌++◌, [], ◌∷◌, ap, ◌∙◌, append_assoc}
use Rattle.mq_model.proofs.SpacedWords.{node_text}
use Rattle.mq_model.proofs.print.push_node.Goals as goal

pub returns : goal.returns
returns c =
    let first = c.first_word.ensures c.args.net.now.columns in
    let start = c.in_ok-extend_from_slice.ensures.items ∙ ap (λ word. c.args.text.now.items ++ word) first in
    let named = rw c.as_slice.ensures at c.in_ok-push_word.ensures in
    let words = node_text c.args.text.now.items _ c.args.node.now.name _ _ _ _ _ _ start named c.in_ok-push_kind.ensures c.in_ok-push_reads.ensures in
    c.in_ok-push.ensures.items ∙ ap (λ l. l ++ 10 ∷ []) words ∙ append_assoc c.args.text.now.items _ (10 ∷ [])
