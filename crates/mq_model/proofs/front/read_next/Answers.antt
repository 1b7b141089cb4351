use Rattle.mq_model.proofs.front.read_next.Goals as goal

pub add_line-requires-clause-words : goal.add_line-requires-clause-words
add_line-requires-clause-words c = rw c.as_slice.ensures.value c.in_ok-words.ensures.words
