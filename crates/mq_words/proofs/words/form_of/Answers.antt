use Rattle.std.proofs.Common.{rules, ap, sym, ℕ, List, ◌≡◌, ◌∙◌, Some, None, is_some}
use Rattle.std.specs.Prelude.{slice_get}
use Rattle.mq_words.specs.Words.{made_option, value_of, words_left}
use Rattle.mq_words.proofs.Faults.{few_left, lacks_name, none_left, two_left}
use Rattle.mq_words.proofs.words.form_of.Goals as goal

pub returns-in_default-clause-some : goal.returns-in_default-clause-some
returns-in_default-clause-some c words pass finds =
    let first : slice_get (words_left words) 0 ≡ Some c.in_ok-model.field-0.now = sym finds.model ∙ search rules in
    let second : slice_get (words_left words) 1 ≡ Some c.in_ok-trace.field-0.now = sym finds.trace ∙ search rules in
    let none : value_of made_option words ≡ None = sym finds.made ∙ search rules in
    (ap is_some none, two_left (words_left words) _ _ first second (few_left words pass))

pub returns-clause-some : goal.returns-clause-some
returns-clause-some c words pass finds =
    let value : value_of made_option words ≡ Some c.in-Some.text.now = sym finds.made ∙ search rules in
    let none : slice_get (words_left words) 0 ≡ None = sym finds.model ∙ search rules in
    (value, none_left (words_left words) none)

pub returns-in_err-model-clause-none : goal.returns-in_err-model-clause-none
returns-in_err-model-clause-none c none words pass finds =
    let made : value_of made_option words ≡ None = sym finds.made ∙ search rules in
    let first : slice_get (words_left words) 0 ≡ None = sym finds.model ∙ search rules in
    lacks_name words pass made (ap (λ (left : List (List ℕ)). slice_get left 1) (none_left (words_left words) first))

pub returns-in_err-trace-clause-none : goal.returns-in_err-trace-clause-none
returns-in_err-trace-clause-none c none words pass finds =
    let made : value_of made_option words ≡ None = sym finds.made ∙ search rules in
    let second : slice_get (words_left words) 1 ≡ None = sym finds.trace ∙ search rules in
    lacks_name words pass made second
