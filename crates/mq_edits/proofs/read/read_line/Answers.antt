use Rattle.std.proofs.Common.{◌≡◌, ◌∙◌, ap, ◌+◌}
use Rattle.mq_base.specs.Text.{texts, words_of}
use Rattle.mq_edits.specs.Edits.{rows_added}
use Rattle.mq_edits.proofs.WordFacts.{read_place}
use Rattle.mq_edits.proofs.read.read_line.Goals as goal

pub rows_after-front-requires : goal.rows_after-front-requires
rows_after-front-requires c =
    (read_place c.args.net.now c.args.front.now.rows c.args.number (texts c.as_slice.result.now) c.in_ok-edit.edit c.in_ok-edit.ensures.ok.0 c.in_ok-edit.ensures.ok.1).0

pub returns-clause-rows : goal.returns-clause-rows
returns-clause-rows c =
    let p = read_place c.args.net.now c.args.front.now.rows c.args.number (texts c.as_slice.result.now) c.in_ok-edit.edit c.in_ok-edit.ensures.ok.0 c.in_ok-edit.ensures.ok.1 in
    let same : texts c.as_slice.result.now ≡ words_of c.args.line.now = rw c.as_slice.ensures.value c.in_ok-words.ensures.words in
    c.rows_after-front.ensures ∙ p.1 ∙ ap (λ ws. c.args.front.now.rows + rows_added ws) same
