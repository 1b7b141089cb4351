use Rattle.std.proofs.Common.{sym, ◌∙◌, refl, drop, length, take, ◌-◌}
use Rattle.std.proofs.lemmas.Result.{err_from_is_err_and}
use Rattle.mq_base.specs.Text.{texts}
use Rattle.mq_model.specs.Form.{read}
use Rattle.mq_model.specs.Lines.{a_name, modulo_route}
use Rattle.mq_model.proofs.FormFacts.{read_then}
use Rattle.mq_model.proofs.ReadFacts.{stops, way_mod, way_none, way_other, way_turn, words_end, words_first}
use Rattle.mq_model.proofs.route.read_way.Goals as goal

pub returns-in_default : goal.returns-in_default
returns-in_default c = way_none c.args.outputs _ (words_end c.args.words.now.now c.in_default.len_below)

pub returns-in_err-column : goal.returns-in_err-column
unfolding modulo_route read
returns-in_err-column c =
    let p = err_from_is_err_and c.from_residual.result c.from_residual.ensures.1 in
    let way = way_mod c.args.outputs _ _ _ (words_first c.args.words.now.now c.in-len1-up.len_at_least) (sym c.if-is_key.ensures) in
    rw (p.1, p.2) (stops c.in_err-column.field-0.0 _ (read a_name (texts (take (length c.args.words.now.now - 1) (drop 1 c.args.words.now.now)))) _ c.in_err-column.ensures (λ l e. way ∙ rw (read_then, e) refl))

pub returns-then-is_key : goal.returns-then-is_key
unfolding modulo_route read
returns-then-is_key c =
    let way = way_mod c.args.outputs _ _ _ (words_first c.args.words.now.now c.in-len1-up.len_at_least) (sym c.if-is_key.ensures) in
    way ∙ rw (read_then, c.in_ok-column.ensures) refl

pub returns-then-is_key-2 : goal.returns-then-is_key-2
returns-then-is_key-2 c = way_turn c.args.outputs _ _ _ (words_first c.args.words.now.now c.in-len1-up.len_at_least) (sym c.if-is_key.ensures) (sym c.if-is_key-2.ensures)

pub returns : goal.returns
returns c = way_other c.args.outputs _ _ _ (words_first c.args.words.now.now c.in-len1-up.len_at_least) (sym c.if-is_key.ensures) (sym c.if-is_key-2.ensures)
