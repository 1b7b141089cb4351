use Rattle.std.proofs.Common.{sym}
use Rattle.mq_model.proofs.ReadFacts.{route_counted, route_cut, route_none, words_end, words_first}
use Rattle.mq_model.proofs.route.read_route.Goals as goal

pub returns-in_default : goal.returns-in_default
returns-in_default c = route_none _ (words_end c.args.words.now.now c.in_default.len_below)

pub returns-then-is_key : goal.returns-then-is_key
returns-then-is_key c = rw (route_cut _ _ _ (words_first c.args.words.now.now c.in-len1-up.len_at_least) (sym c.if-is_key.ensures)) c.read_cut.ensures

pub returns : goal.returns
returns c = rw (route_counted _ _ _ (words_first c.args.words.now.now c.in-len1-up.len_at_least) (sym c.if-is_key.ensures)) c.read_counted.ensures
