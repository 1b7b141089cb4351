use Rattle.std.proofs.Common.{sym}
use Rattle.mq_model.proofs.ReadFacts.{line_first, line_fork, line_join, line_nothing, line_trunk, words_end, words_first}
use Rattle.mq_model.proofs.line.read_any.Goals as goal

pub returns-in_default : goal.returns-in_default
returns-in_default c = line_nothing _ (words_end c.args.words.now.now c.in_default.len_below)

pub returns-then-is_key : goal.returns-then-is_key
returns-then-is_key c = rw (line_fork _ _ _ (words_first c.args.words.now.now c.in-len1-up.len_at_least) (sym c.if-is_key.ensures)) c.read_node.ensures

pub returns-then-is_key-2 : goal.returns-then-is_key-2
returns-then-is_key-2 c =
    rw (line_join _ _ _ (words_first c.args.words.now.now c.in-len1-up.len_at_least) (sym c.if-is_key.ensures) (sym c.if-is_key-2.ensures)) c.read_join.ensures

pub returns-then-is_key-3 : goal.returns-then-is_key-3
returns-then-is_key-3 c =
    rw (line_trunk _ _ _ (words_first c.args.words.now.now c.in-len1-up.len_at_least) (sym c.if-is_key.ensures) (sym c.if-is_key-2.ensures) (sym c.if-is_key-3.ensures)) c.read_node-then-is_key-3.ensures

pub returns : goal.returns
returns c =
    rw (line_first _ _ _ (words_first c.args.words.now.now c.in-len1-up.len_at_least) (sym c.if-is_key.ensures) (sym c.if-is_key-2.ensures) (sym c.if-is_key-3.ensures)) c.read_first.ensures
