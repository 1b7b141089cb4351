use Rattle.std.proofs.Common.{◌≡◌, ◌∙◌, [], get_or, true, false, rules}
use Rattle.std.proofs.lemmas.Result.{IfErr-weaker}
use Rattle.mq_edits.specs.Edits.{is_add, is_set}
use Rattle.mq_edits.proofs.WordFacts.{add_told, set_told}
use Rattle.mq_edits.proofs.line.read_words.Goals as goal

pub returns-then-eq-clause-err : goal.returns-then-eq-clause-err
returns-then-eq-clause-err c =
    let set : is_set (get_or c.args.words.now 0 (record { ref_ptr = (0, 0); now = [] })).now ≡ true = search rules in
    IfErr-weaker c.read_set.result _ _ (λ e h m. set_told c.args.net.now c.args.rows c.args.line c.args.words.now (record { ref_ptr = (0, 0); now = [] }) c.requires.some set ∙ h m) c.read_set.ensures.err

pub returns-then-eq-2-clause-err : goal.returns-then-eq-2-clause-err
returns-then-eq-2-clause-err c =
    let unset : is_set (get_or c.args.words.now 0 (record { ref_ptr = (0, 0); now = [] })).now ≡ false = search rules in
    let add : is_add (get_or c.args.words.now 0 (record { ref_ptr = (0, 0); now = [] })).now ≡ true = search rules in
    IfErr-weaker c.read_add.result _ _ (λ e h m. add_told c.args.net.now c.args.rows c.args.line c.args.words.now (record { ref_ptr = (0, 0); now = [] }) c.requires.some unset add ∙ h m) c.read_add.ensures.err
