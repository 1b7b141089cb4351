use Rattle.std.proofs.Common.{sym, refl}
use Rattle.mq_model.proofs.WordFacts.{later_first, later_none}
use Rattle.mq_model.proofs.front.begins_later.Goals as goal

pub returns-in_default : goal.returns-in_default
returns-in_default c = sym (later_none c.args.words.now c.in_default.len_below)

pub returns-then-is_key : goal.returns-then-is_key
returns-then-is_key c = rw (later_first c.args.words.now c.in-len1-up.len_at_least, sym c.if-is_key.ensures) refl

pub returns-then-is_key-2 : goal.returns-then-is_key-2
returns-then-is_key-2 c = rw (later_first c.args.words.now c.in-len1-up.len_at_least, sym c.if-is_key.ensures, sym c.if-is_key-2.ensures) refl

pub returns : goal.returns
returns c = rw (later_first c.args.words.now c.in-len1-up.len_at_least, sym c.if-is_key.ensures, sym c.if-is_key-2.ensures) c.is_key-3.ensures
