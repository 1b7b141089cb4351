use Rattle.std.proofs.Common.{sym, ◌∙◌, refl}
use Rattle.mq_model.specs.Lines.{is_from_to, value_of}
use Rattle.mq_model.proofs.ReadFacts.{below_least, first_of, from_least, number_none, number_some, read_one_no, read_one_yes, words_first}
use Rattle.mq_model.proofs.parts.read_within.Goals as goal

pub returns-in_default-read_number-clause-reads : goal.returns-in_default-read_number-clause-reads
returns-in_default-read_number-clause-reads c =
    let bad = number_none (first_of c.args.words.now.now) c.args.most (sym c.in_default-read_number.ensures) in
    read_one_no (is_from_to c.args.least c.args.most) value_of _ _ _ (words_first c.args.words.now.now c.in-len1-up.len_at_least) (rw bad refl)

pub returns-then-number-least-clause-reads : goal.returns-then-number-least-clause-reads
returns-then-number-least-clause-reads c =
    let good = number_some (first_of c.args.words.now.now) c.args.most c.in-Some.number (sym c.in-Some.ensures) in
    read_one_no (is_from_to c.args.least c.args.most) value_of _ _ _ (words_first c.args.words.now.now c.in-len1-up.len_at_least) (below_least (first_of c.args.words.now.now) c.args.least c.args.most c.in-Some.number good.0 good.1 c.if-number-least.true)

pub returns-clause-reads : goal.returns-clause-reads
returns-clause-reads c =
    let good = number_some (first_of c.args.words.now.now) c.args.most c.in-Some.number (sym c.in-Some.ensures) in
    read_one_yes (is_from_to c.args.least c.args.most) value_of _ _ _ (words_first c.args.words.now.now c.in-len1-up.len_at_least) (from_least (first_of c.args.words.now.now) c.args.least c.args.most c.in-Some.number good.0 good.1 c.if-number-least.false) ∙ rw (good.1) refl
