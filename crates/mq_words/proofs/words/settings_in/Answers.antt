use Rattle.std.proofs.Common.{rules, ap, sym, ◌≡◌, ◌∙◌, Some, None, false, true, Bool, codes, refl}
use Rattle.std.specs.Prelude.{if◌then◌else◌}
use Rattle.mq_words.specs.Matched.{HasForm}
use Rattle.mq_words.specs.Words.{AsksFor, block_asked, form_asked, jobs_asked, number_asked, workers_asked}
use Rattle.mq_words.proofs.Faults.{accepted, asks_for, names_are, no_block, no_made, no_report, no_workers}
use Rattle.mq_words.proofs.words.settings_in.Goals as goal

pub returns-in_default-number_of-clause-refused : goal.returns-in_default-number_of-clause-refused
returns-in_default-number_of-clause-refused c words pass finds =
    let form : HasForm words c.in-Some.form = c.in-Some.ensures.some words pass finds in
    let workers : workers_asked words ≡ c.number_of.result = ap (number_asked 4 1 64) (sym finds.workers ∙ sym c.get_str.ensures) ∙ sym c.number_of.ensures in
    let none : c.number_of.result ≡ None = search rules in
    no_workers words pass (names_are words _ form) (workers ∙ none)

pub returns-in_default-number_of-2-clause-refused : goal.returns-in_default-number_of-2-clause-refused
returns-in_default-number_of-2-clause-refused c words pass finds =
    let form : HasForm words c.in-Some.form = c.in-Some.ensures.some words pass finds in
    let workers : workers_asked words ≡ c.number_of.result = ap (number_asked 4 1 64) (sym finds.workers ∙ sym c.get_str.ensures) ∙ sym c.number_of.ensures in
    let some : c.number_of.result ≡ Some c.in-Some-number_of.workers = search rules in
    let block : block_asked words ≡ c.number_of-2.result = ap (number_asked 4096 1 65536) (sym finds.block ∙ sym c.get_str-2.ensures) ∙ sym c.number_of-2.ensures in
    let none : c.number_of-2.result ≡ None = search rules in
    no_block words c.in-Some-number_of.workers pass (names_are words _ form) (workers ∙ some) (block ∙ none)

pub returns-in_default-subject_of-clause-refused : goal.returns-in_default-subject_of-clause-refused
returns-in_default-subject_of-clause-refused c words pass finds =
    let form : HasForm words c.in-Some.form = c.in-Some.ensures.some words pass finds in
    let workers : workers_asked words ≡ c.number_of.result = ap (number_asked 4 1 64) (sym finds.workers ∙ sym c.get_str.ensures) ∙ sym c.number_of.ensures in
    let some_workers : c.number_of.result ≡ Some c.in-Some-number_of.workers = search rules in
    let block : block_asked words ≡ c.number_of-2.result = ap (number_asked 4096 1 65536) (sym finds.block ∙ sym c.get_str-2.ensures) ∙ sym c.number_of-2.ensures in
    let some_block : c.number_of-2.result ≡ Some c.in-Some-number_of-2.block = search rules in
    let none : c.subject_of.result ≡ None = search rules in
    no_made words _ _ c.in-Some.form pass (workers ∙ some_workers) (block ∙ some_block) form (sym c.subject_of.ensures ∙ none)

pub returns-in_default-number_of-3-clause-refused : goal.returns-in_default-number_of-3-clause-refused
returns-in_default-number_of-3-clause-refused c words pass finds =
    let form : HasForm words c.in-Some.form = c.in-Some.ensures.some words pass finds in
    let workers : workers_asked words ≡ c.number_of.result = ap (number_asked 4 1 64) (sym finds.workers ∙ sym c.get_str.ensures) ∙ sym c.number_of.ensures in
    let some_workers : c.number_of.result ≡ Some c.in-Some-number_of.workers = search rules in
    let block : block_asked words ≡ c.number_of-2.result = ap (number_asked 4096 1 65536) (sym finds.block ∙ sym c.get_str-2.ensures) ∙ sym c.number_of-2.ensures in
    let some_block : c.number_of-2.result ≡ Some c.in-Some-number_of-2.block = search rules in
    let some_subject : c.subject_of.result ≡ Some c.in-Some-subject_of.subject = search rules in
    let report : form_asked words ≡ c.number_of-3.result = ap (number_asked 2 1 2) (sym finds.report ∙ sym c.get_str-3.ensures) ∙ sym c.number_of-3.ensures in
    let none : c.number_of-3.result ≡ None = search rules in
    no_report words _ _ c.in-Some.form _ pass (workers ∙ some_workers) (block ∙ some_block) form (sym c.subject_of.ensures ∙ some_subject) (report ∙ none)

pub returns-clause-asked : goal.returns-clause-asked
returns-clause-asked c words pass finds =
    let form : HasForm words c.in-Some.form = c.in-Some.ensures.some words pass finds in
    let workers : workers_asked words ≡ c.number_of.result = ap (number_asked 4 1 64) (sym finds.workers ∙ sym c.get_str.ensures) ∙ sym c.number_of.ensures in
    let some_workers : c.number_of.result ≡ Some c.in-Some-number_of.workers = search rules in
    let block : block_asked words ≡ c.number_of-2.result = ap (number_asked 4096 1 65536) (sym finds.block ∙ sym c.get_str-2.ensures) ∙ sym c.number_of-2.ensures in
    let some_block : c.number_of-2.result ≡ Some c.in-Some-number_of-2.block = search rules in
    let some_subject : c.subject_of.result ≡ Some c.in-Some-subject_of.subject = search rules in
    let report : form_asked words ≡ c.number_of-3.result = ap (number_asked 2 1 2) (sym finds.report ∙ sym c.get_str-3.ensures) ∙ sym c.number_of-3.ensures in
    let some_report : c.number_of-3.result ≡ Some c.in-Some-number_of-3.report = search rules in
    let subject : AsksFor words c.in-Some-subject_of.subject = asks_for words _ _ _ c.in-Some.form _ pass (workers ∙ some_workers) (block ∙ some_block) (report ∙ some_report) form (sym c.subject_of.ensures ∙ some_subject) in
    record {
      accepted = accepted words _ subject;
      subject = subject;
      workers = workers ∙ some_workers;
      block = block ∙ some_block;
      form = report ∙ some_report;
      jobs = flag_is (jobs_asked words) c.get_flag-jobs.result (λ t. c.get_flag-jobs.ensures.value (finds.jobs ∙ t)) (λ t. c.get_flag-jobs.ensures.other (finds.jobs ∙ t));
    }
  where
    flag_is : (b flag : Bool) → (Some (if b then codes "true" else codes "false") ≡ Some (codes "true") → flag ≡ true)
        → (Some (if b then codes "true" else codes "false") ≡ Some (codes "false") → flag ≡ false) → b ≡ flag
    flag_is true flag set unset = sym (set refl)
    flag_is false flag set unset = sym (unset refl)
