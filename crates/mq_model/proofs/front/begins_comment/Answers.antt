use Rattle.std.proofs.Common.{sym}
use Rattle.mq_model.proofs.WordFacts.{comment_empty, comment_first, comment_none}
use Rattle.mq_model.proofs.front.begins_comment.Goals as goal

pub returns-in_default : goal.returns-in_default
returns-in_default c = sym (comment_none c.args.words.now c.in_default.len_below)

pub returns-in_default-word : goal.returns-in_default-word
returns-in_default-word c = sym (comment_empty c.args.words.now c.in-len1-up.len_at_least c.in_default-word.len_below)

pub returns : goal.returns
returns c = sym (comment_first c.args.words.now c.in-len1-up.len_at_least c.in-len1-up-word.len_at_least)
