use Rattle.std.proofs.Common.{sym, ◌∙◌, ◌-◌, ◌^◌, drop, length, take}
use Rattle.std.proofs.lemmas.Result.{err_from_is_err_and}
use Rattle.mq_base.specs.Text.{texts}
use Rattle.mq_model.specs.Form.{one, read}
use Rattle.mq_model.specs.Lines.{is_from_to, value_of}
use Rattle.mq_model.proofs.ReadFacts.{bound_fault, bound_is, stops, line_bound, line_kind, line_none, line_source, words_end, words_first}
use Rattle.mq_model.proofs.line.read_first.Goals as goal

pub returns-in_default : goal.returns-in_default
returns-in_default c = line_none _ (words_end c.args.words.now.now c.in_default.len_below)

pub returns-in_err-read_within : goal.returns-in_err-read_within
returns-in_err-read_within c =
    let p = err_from_is_err_and c.from_residual.result c.from_residual.ensures.1 in
    let bound = line_bound _ _ _ (words_first c.args.words.now.now c.in-len1-up.len_at_least) (sym c.if-is_key.ensures) in
    rw (p.1, p.2) (stops c.in_err-read_within.field-0.0 _ (read (one (is_from_to 0 (2 ^ 60)) value_of) (texts (take (length c.args.words.now.now - 1) (drop 1 c.args.words.now.now)))) _ c.in_err-read_within.ensures.reads (λ l e. bound ∙ bound_fault _ l e))

pub returns-then-is_key : goal.returns-then-is_key
returns-then-is_key c =
    line_bound _ _ _ (words_first c.args.words.now.now c.in-len1-up.len_at_least) (sym c.if-is_key.ensures) ∙ bound_is _ _ _ c.in_ok-read_within.ensures.reads

pub returns-then-is_key-2 : goal.returns-then-is_key-2
returns-then-is_key-2 c =
    rw (line_source _ _ _ (words_first c.args.words.now.now c.in-len1-up.len_at_least) (sym c.if-is_key.ensures) (sym c.if-is_key-2.ensures)) c.read_source.ensures

pub returns-in_default-kind_word : goal.returns-in_default-kind_word
returns-in_default-kind_word c =
    line_kind _ _ _ (words_first c.args.words.now.now c.in-len1-up.len_at_least) (sym c.if-is_key.ensures) (sym c.if-is_key-2.ensures) ∙ c.in_default-kind_word.ensures _ _ (words_first c.args.words.now.now c.in-len1-up.len_at_least)

pub returns : goal.returns
returns c =
    rw (line_kind _ _ _ (words_first c.args.words.now.now c.in-len1-up.len_at_least) (sym c.if-is_key.ensures) (sym c.if-is_key-2.ensures), c.in-Some.ensures _ _ (words_first c.args.words.now.now c.in-len1-up.len_at_least)) c.read_node.ensures
