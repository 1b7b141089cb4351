use Rattle.std.proofs.Common.{◌≡◌, ◌∙◌, refl, sym, ap, subst, ℕ, List, [], ◌∷◌, Some, None}
use Rattle.std.specs.Prelude.{unwrap_or}
use Rattle.mq_base.specs.Text.{texts}
use Rattle.mq_gen.specs.Made.{made_model, made_trace}
use Rattle.mq_model.specs.Model.{model_fault}
use Rattle.mq_model.specs.NetworkOf.{network_in}
use Rattle.mq_outside.proofs.lemmas.Readings.{reads_both, reads_nothing, reads_some}
use Rattle.mq_outside.proofs.lemmas.Writings.{writes_wider}
use Rattle.mq_top.specs.Answer.{answer, answer_over, wanted_by}
use Rattle.mq_top.specs.Ends.{Ends, IsLate, IsOfMade, IsText, RefusesCall, RefusesModel, Taken, names_read, reading_of, takings, writing_of}
use Rattle.mq_outcome.specs.Lines.{name_of}
use Rattle.mq_words.specs.Words.{Asks, AsksFor, Makes, Names}
use Rattle.mq_words.proofs.Faults.{not_both, same_names, same_number}
use Rattle.mq_top.proofs.Exits.{call_count, call_ends, call_made, call_model, call_name, call_unwritten, call_usage, call_words, late_count, made_count, makes_asks, model_count, model_ends, model_name, model_unwritten, named_read, not_refused, writes_nothing}
use Rattle.mq_top.proofs.MadeRuns.{same_answer, some_is_none}
use Rattle.mq_top.proofs.Told.{answer_is, told_is}
use Rattle.mq_top.specs.declared.stages.Wanted.{Wanted}
use Rattle.mq_words.specs.declared.words.Settings.{Settings}
use Rattle.mq_top.proofs.stages.simulate_gated.Given as Given
use Rattle.mq_top.proofs.stages.simulate_gated.Goals as goal

-- what settings want of the report
abbrev asked_for : Settings → Wanted
asked_for settings = record { form = settings.form; jobs = settings.jobs }

-- it is what the words want
wanted_is : (words : List (List ℕ)) (settings : Settings) → Asks words settings → asked_for settings ≡ wanted_by words
wanted_is words settings asked = λ k. record { form = unwrap_or (sym asked.form k) 2; jobs = sym asked.jobs k }

-- ---- before the model is read

pub returns-in-Err-clause-ends : goal.returns-in-Err-clause-ends
returns-in-Err-clause-ends g c m t model trace names told_m told_t =
    call_ends (texts c.args.words.now) c.in-Err.outcome (answer model trace (wanted_by (texts c.args.words.now))) (takings g.O.Sink.taken g.O.Sink.sure c.args.out.now c.args.out.now) c.in-Err.ensures.refused names.accepted

pub returns-in-Err-clause-usage : goal.returns-in-Err-clause-usage
returns-in-Err-clause-usage g c fault is = subst (RefusesCall (texts c.args.words.now)) is c.in-Err.ensures.refused

pub returns-in-Err-clause-usage_comes : goal.returns-in-Err-clause-usage_comes
returns-in-Err-clause-usage_comes g c fault is = call_usage (texts c.args.words.now) c.in-Err.outcome fault c.in-Err.ensures.refused is

pub returns-in-Err-clause-words : goal.returns-in-Err-clause-words
returns-in-Err-clause-words g c refused = call_words (texts c.args.words.now) c.in-Err.outcome c.in-Err.ensures.refused refused

pub returns-in-Err-clause-model : goal.returns-in-Err-clause-model
returns-in-Err-clause-model g c m t model fault names told_m is = call_model (texts c.args.words.now) c.in-Err.outcome (Some model) c.in-Err.ensures.refused names.accepted

pub returns-in-Err-clause-model_only : goal.returns-in-Err-clause-model_only
returns-in-Err-clause-model_only g c m t model fault names told_m is = elim (subst (RefusesCall (texts c.args.words.now)) is c.in-Err.ensures.refused) [ ]

pub returns-in-Err-clause-never : goal.returns-in-Err-clause-never
returns-in-Err-clause-never g c = (λ e. subst (RefusesCall (texts c.args.words.now)) e c.in-Err.ensures.refused, λ e. subst (RefusesCall (texts c.args.words.now)) e c.in-Err.ensures.refused)

pub returns-in-Err-clause-made : goal.returns-in-Err-clause-made
returns-in-Err-clause-made g c number makes =
    call_ends (texts c.args.words.now) c.in-Err.outcome (answer (made_model number) (made_trace number) (wanted_by (texts c.args.words.now))) (takings g.O.Sink.taken g.O.Sink.sure c.args.out.now c.args.out.now) c.in-Err.ensures.refused makes.accepted

pub returns-in-Err-clause-made_accepted : goal.returns-in-Err-clause-made_accepted
returns-in-Err-clause-made_accepted g c number makes = call_made (texts c.args.words.now) c.in-Err.outcome c.in-Err.ensures.refused makes.accepted

pub returns-in-Err-clause-reads : goal.returns-in-Err-clause-reads
returns-in-Err-clause-reads g c = reads_nothing _ _ _ _ _ (names_read (texts c.args.words.now)) (reading_of c.in-Err.outcome) (call_count (texts c.args.words.now) c.in-Err.outcome c.in-Err.ensures.refused)

pub returns-in-Err-clause-writes : goal.returns-in-Err-clause-writes
returns-in-Err-clause-writes g c = writes_nothing _ _ _ _ _ _ (call_unwritten (texts c.args.words.now) c.in-Err.outcome c.in-Err.ensures.refused)

pub returns-in-Err-clause-line : goal.returns-in-Err-clause-line
returns-in-Err-clause-line g c = ([], c.put_line.ensures, λ m t model names told_m. call_name (texts c.args.words.now) c.in-Err.outcome (network_in model) c.in-Err.ensures.refused)

-- ---- once the model was accepted

names_of : (g : Given.Over) (c : goal.After-drop g) → Names (texts c.args.words.now) c.in-Named.model.now c.in-Named.trace.now
names_of g c = subst (AsksFor (texts c.args.words.now)) c.in-Named.is c.in-Ok.ensures.asked.subject

-- the network is that of the named model, which has no fault
read : (g : Given.Over) (c : goal.After-drop g) (m t model : List ℕ) → Names (texts c.args.words.now) m t → g.F.Files.told c.args.files.now m ≡ Some model
    → (model_fault model ≡ None) × (c.in-Ok-accept_model.plan.net ≡ network_in model)
read g c m t model names told_m =
    told_is _ model (λ bytes. (model_fault bytes ≡ None) × (c.in-Ok-accept_model.plan.net ≡ network_in bytes))
    (ap (g.F.Files.told c.args.files.now) (sym (same_names (texts c.args.words.now) m t _ _ names (names_of g c)).0) ∙ told_m) c.in-Ok-accept_model.ensures.accepted

trace_told : (g : Given.Over) (c : goal.After-drop g) (m t trace : List ℕ) → Names (texts c.args.words.now) m t → g.F.Files.told c.args.files.now t ≡ Some trace
    → g.F.Files.told c.accept_model.new.files c.in-Named.trace.now ≡ Some trace
trace_told g c m t trace names told_t =
    c.in-Ok-accept_model.ensures.reads.same_told c.in-Named.trace.now ∙ (ap (g.F.Files.told c.args.files.now) (sym (same_names (texts c.args.words.now) m t _ _ names (names_of g c)).1) ∙ told_t)

-- the answer over the network is that to the named model
same : (g : Given.Over) (c : goal.After-drop g) (m t model trace : List ℕ) → Names (texts c.args.words.now) m t → g.F.Files.told c.args.files.now m ≡ Some model
    → answer_over c.in-Ok-accept_model.plan.net trace (asked_for c.in-Ok.settings) ≡ answer model trace (wanted_by (texts c.args.words.now))
same g c m t model trace names told_m =
    let is = read g c m t model names told_m in
    answer_is c.in-Ok-accept_model.plan.net model trace (asked_for c.in-Ok.settings) (wanted_by (texts c.args.words.now)) is.0 is.1 (wanted_is (texts c.args.words.now) c.in-Ok.settings c.in-Ok.ensures.asked)

pub returns-in-Ok-accept_model-clause-ends : goal.returns-in-Ok-accept_model-clause-ends
returns-in-Ok-accept_model-clause-ends g c m t model trace names told_m told_t =
    let taken : Taken = takings g.O.Sink.taken g.O.Sink.sure c.args.out.now c.run_trace-outcome.new.out in
    subst (λ a. Ends a c.run_trace-outcome.result taken) (same g c m t model trace names told_m)
    (told_is _ trace (λ bytes. Ends (answer_over c.in-Ok-accept_model.plan.net bytes (asked_for c.in-Ok.settings)) c.run_trace-outcome.result taken) (trace_told g c m t trace names told_t) c.run_trace-outcome.ensures.ends)

pub returns-in-Ok-accept_model-clause-usage : goal.returns-in-Ok-accept_model-clause-usage
returns-in-Ok-accept_model-clause-usage g c fault is = elim (subst IsLate is c.run_trace-outcome.ensures.late) [ ]

pub returns-in-Ok-accept_model-clause-usage_comes : goal.returns-in-Ok-accept_model-clause-usage_comes
returns-in-Ok-accept_model-clause-usage_comes g c fault is = some_is_none _ fault is c.in-Ok.ensures.asked.accepted

pub returns-in-Ok-accept_model-clause-words : goal.returns-in-Ok-accept_model-clause-words
returns-in-Ok-accept_model-clause-words g c refused = not_refused (texts c.args.words.now) c.in-Ok.ensures.asked.accepted refused

pub returns-in-Ok-accept_model-clause-model : goal.returns-in-Ok-accept_model-clause-model
returns-in-Ok-accept_model-clause-model g c m t model fault names told_m is = some_is_none _ fault is (read g c m t model names told_m).0

pub returns-in-Ok-accept_model-clause-model_only : goal.returns-in-Ok-accept_model-clause-model_only
returns-in-Ok-accept_model-clause-model_only g c m t model fault names told_m is = elim (subst IsLate is c.run_trace-outcome.ensures.late) [ ]

pub returns-in-Ok-accept_model-clause-never : goal.returns-in-Ok-accept_model-clause-never
returns-in-Ok-accept_model-clause-never g c = (λ e. subst IsLate e c.run_trace-outcome.ensures.late, λ e. subst IsLate e c.run_trace-outcome.ensures.late refl)

pub returns-in-Ok-accept_model-clause-made : goal.returns-in-Ok-accept_model-clause-made
returns-in-Ok-accept_model-clause-made g c number makes = elim (not_both (texts c.args.words.now) _ _ number (names_of g c) makes) [ ]

pub returns-in-Ok-accept_model-clause-made_accepted : goal.returns-in-Ok-accept_model-clause-made_accepted
returns-in-Ok-accept_model-clause-made_accepted g c number makes = elim (not_both (texts c.args.words.now) _ _ number (names_of g c) makes) [ ]

pub returns-in-Ok-accept_model-clause-reads : goal.returns-in-Ok-accept_model-clause-reads
returns-in-Ok-accept_model-clause-reads g c =
    reads_some _ _ _ _ _ _ (names_read (texts c.args.words.now)) c.in-Named.model.now (c.in-Named.trace.now ∷ []) (reading_of c.run_trace-outcome.result) 2
    (named_read (texts c.args.words.now) c.in-Named.model.now c.in-Named.trace.now (names_of g c)) (late_count c.run_trace-outcome.result c.run_trace-outcome.ensures.late)
    (reads_both _ _ _ _ _ _ _ (c.in-Named.model.now ∷ []) c.in-Named.trace.now [] _ c.in-Ok-accept_model.ensures.reads c.run_trace-outcome.ensures.reads)

pub returns-in-Ok-accept_model-clause-writes : goal.returns-in-Ok-accept_model-clause-writes
returns-in-Ok-accept_model-clause-writes g c =
    writes_wider _ _ _ _ _ (writing_of c.run_trace-outcome.result) _ _
    (λ text is. record {
      named = λ m t model trace names told_m told_t. subst (IsText text) (same g c m t model trace names told_m)
          (told_is _ trace (λ bytes. IsText text (answer_over c.in-Ok-accept_model.plan.net bytes (asked_for c.in-Ok.settings))) (trace_told g c m t trace names told_t) is);
      made = λ number makes. elim (not_both (texts c.args.words.now) _ _ number (names_of g c) makes) [ ];
    }) c.run_trace-outcome.ensures.writes

pub returns-in-Ok-accept_model-clause-line : goal.returns-in-Ok-accept_model-clause-line
returns-in-Ok-accept_model-clause-line g c =
    (_, c.put_line-in-Ok-accept_model.ensures, λ m t model names told_m. c.name_of.ensures ∙ ap (λ net. name_of net c.run_trace-outcome.result) (read g c m t model names told_m).1)

-- ---- at the model

names_at_model : (g : Given.Over) (c : goal.After-put_line-in-Err-accept_model g) → Names (texts c.args.words.now) c.in-Named.model.now c.in-Named.trace.now
names_at_model g c = subst (AsksFor (texts c.args.words.now)) c.in-Named.is c.in-Ok.ensures.asked.subject

refused : (g : Given.Over) (c : goal.After-put_line-in-Err-accept_model g) (m t model : List ℕ) → Names (texts c.args.words.now) m t → g.F.Files.told c.args.files.now m ≡ Some model
    → RefusesModel c.in-Err-accept_model.outcome (Some model)
refused g c m t model names told_m =
    subst (RefusesModel c.in-Err-accept_model.outcome)
    (ap (g.F.Files.told c.args.files.now) (sym (same_names (texts c.args.words.now) m t _ _ names (names_at_model g c)).0) ∙ told_m) c.in-Err-accept_model.ensures.refused

pub returns-in-Err-accept_model-clause-ends : goal.returns-in-Err-accept_model-clause-ends
returns-in-Err-accept_model-clause-ends g c m t model trace names told_m told_t =
    model_ends model trace (wanted_by (texts c.args.words.now)) c.in-Err-accept_model.outcome (takings g.O.Sink.taken g.O.Sink.sure c.args.out.now c.args.out.now) (refused g c m t model names told_m)

pub returns-in-Err-accept_model-clause-usage : goal.returns-in-Err-accept_model-clause-usage
returns-in-Err-accept_model-clause-usage g c fault is = elim (subst (λ o. RefusesModel o (g.F.Files.told c.args.files.now c.in-Named.model.now)) is c.in-Err-accept_model.ensures.refused) [ ]

pub returns-in-Err-accept_model-clause-usage_comes : goal.returns-in-Err-accept_model-clause-usage_comes
returns-in-Err-accept_model-clause-usage_comes g c fault is = some_is_none _ fault is c.in-Ok.ensures.asked.accepted

pub returns-in-Err-accept_model-clause-words : goal.returns-in-Err-accept_model-clause-words
returns-in-Err-accept_model-clause-words g c h = not_refused (texts c.args.words.now) c.in-Ok.ensures.asked.accepted h

pub returns-in-Err-accept_model-clause-model : goal.returns-in-Err-accept_model-clause-model
returns-in-Err-accept_model-clause-model g c m t model fault names told_m is = refused g c m t model names told_m

pub returns-in-Err-accept_model-clause-model_only : goal.returns-in-Err-accept_model-clause-model_only
returns-in-Err-accept_model-clause-model_only g c m t model fault names told_m is = (subst (λ o. RefusesModel o (Some model)) is (refused g c m t model names told_m)).1

pub returns-in-Err-accept_model-clause-never : goal.returns-in-Err-accept_model-clause-never
returns-in-Err-accept_model-clause-never g c = (
  λ e. (subst (λ o. RefusesModel o (g.F.Files.told c.args.files.now c.in-Named.model.now)) e c.in-Err-accept_model.ensures.refused).0 refl,
  λ e. subst (λ o. RefusesModel o (g.F.Files.told c.args.files.now c.in-Named.model.now)) e c.in-Err-accept_model.ensures.refused,
)

pub returns-in-Err-accept_model-clause-made : goal.returns-in-Err-accept_model-clause-made
returns-in-Err-accept_model-clause-made g c number makes = elim (not_both (texts c.args.words.now) _ _ number (names_at_model g c) makes) [ ]

pub returns-in-Err-accept_model-clause-made_accepted : goal.returns-in-Err-accept_model-clause-made_accepted
returns-in-Err-accept_model-clause-made_accepted g c number makes = elim (not_both (texts c.args.words.now) _ _ number (names_at_model g c) makes) [ ]

pub returns-in-Err-accept_model-clause-reads : goal.returns-in-Err-accept_model-clause-reads
returns-in-Err-accept_model-clause-reads g c =
    reads_some _ _ _ _ _ _ (names_read (texts c.args.words.now)) c.in-Named.model.now (c.in-Named.trace.now ∷ []) (reading_of c.in-Err-accept_model.outcome) 1
    (named_read (texts c.args.words.now) c.in-Named.model.now c.in-Named.trace.now (names_at_model g c)) (model_count _ c.in-Err-accept_model.outcome c.in-Err-accept_model.ensures.refused) c.in-Err-accept_model.ensures.reads

pub returns-in-Err-accept_model-clause-writes : goal.returns-in-Err-accept_model-clause-writes
returns-in-Err-accept_model-clause-writes g c = writes_nothing _ _ _ _ _ _ (model_unwritten _ c.in-Err-accept_model.outcome c.in-Err-accept_model.ensures.refused)

pub returns-in-Err-accept_model-clause-line : goal.returns-in-Err-accept_model-clause-line
returns-in-Err-accept_model-clause-line g c =
    ([], c.put_line-in-Err-accept_model.ensures, λ m t model names told_m. model_name _ c.in-Err-accept_model.outcome (network_in model) c.in-Err-accept_model.ensures.refused)

-- ---- a made input

makes_of : (g : Given.Over) (c : goal.After-run_made g) → Makes (texts c.args.words.now) c.in-Made.number
makes_of g c = subst (AsksFor (texts c.args.words.now)) c.in-Made.is c.in-Ok.ensures.asked.subject

-- the answer for the number that was read is that for the number that the words ask for
same_made : (g : Given.Over) (c : goal.After-run_made g) (number : ℕ) → Makes (texts c.args.words.now) number
    → answer (made_model c.in-Made.number) (made_trace c.in-Made.number) (asked_for c.in-Ok.settings) ≡ answer (made_model number) (made_trace number) (wanted_by (texts c.args.words.now))
same_made g c number makes =
    same_answer number c.in-Made.number (wanted_by (texts c.args.words.now)) (asked_for c.in-Ok.settings) (same_number (texts c.args.words.now) number c.in-Made.number makes (makes_of g c))
    (sym (wanted_is (texts c.args.words.now) c.in-Ok.settings c.in-Ok.ensures.asked))

pub returns-in-Made-clause-made : goal.returns-in-Made-clause-made
returns-in-Made-clause-made g c number makes =
    subst (λ a. Ends a c.run_made.result (takings g.O.Sink.taken g.O.Sink.sure c.args.out.now c.run_made.new.out)) (same_made g c number makes) c.run_made.ensures.ends

pub returns-in-Made-clause-made_accepted : goal.returns-in-Made-clause-made_accepted
returns-in-Made-clause-made_accepted g c number makes = c.run_made.ensures.made

pub returns-in-Made-clause-ends : goal.returns-in-Made-clause-ends
returns-in-Made-clause-ends g c m t model trace names told_m told_t = elim (not_both (texts c.args.words.now) m t _ names (makes_of g c)) [ ]

pub returns-in-Made-clause-usage : goal.returns-in-Made-clause-usage
returns-in-Made-clause-usage g c fault is = elim (subst IsOfMade is c.run_made.ensures.made) [ ]

pub returns-in-Made-clause-usage_comes : goal.returns-in-Made-clause-usage_comes
returns-in-Made-clause-usage_comes g c fault is = some_is_none _ fault is c.in-Ok.ensures.asked.accepted

pub returns-in-Made-clause-words : goal.returns-in-Made-clause-words
returns-in-Made-clause-words g c h = not_refused (texts c.args.words.now) c.in-Ok.ensures.asked.accepted h

pub returns-in-Made-clause-model : goal.returns-in-Made-clause-model
returns-in-Made-clause-model g c m t model fault names told_m is = elim (not_both (texts c.args.words.now) m t _ names (makes_of g c)) [ ]

pub returns-in-Made-clause-model_only : goal.returns-in-Made-clause-model_only
returns-in-Made-clause-model_only g c m t model fault names told_m is = elim (subst IsOfMade is c.run_made.ensures.made) [ ]

pub returns-in-Made-clause-never : goal.returns-in-Made-clause-never
returns-in-Made-clause-never g c = (λ e. subst IsOfMade e c.run_made.ensures.made, λ e. subst IsOfMade e c.run_made.ensures.made)

pub returns-in-Made-clause-reads : goal.returns-in-Made-clause-reads
returns-in-Made-clause-reads g c =
    reads_nothing _ _ _ _ _ (names_read (texts c.args.words.now)) (reading_of c.run_made.result)
    (made_count (texts c.args.words.now) c.run_made.result (makes_asks (texts c.args.words.now) c.in-Made.number (makes_of g c)) c.run_made.ensures.made)

pub returns-in-Made-clause-writes : goal.returns-in-Made-clause-writes
returns-in-Made-clause-writes g c =
    writes_wider _ _ _ _ _ (writing_of c.run_made.result) _ _
    (λ text is. record {
      named = λ m t model trace names told_m told_t. elim (not_both (texts c.args.words.now) m t _ names (makes_of g c)) [ ];
      made = λ number makes. subst (IsText text) (same_made g c number makes) is;
    }) c.run_made.ensures.writes

pub returns-in-Made-clause-line : goal.returns-in-Made-clause-line
returns-in-Made-clause-line g c = ([], c.run_made.ensures.line, λ m t model names told_m. elim (not_both (texts c.args.words.now) m t _ names (makes_of g c)) [ ])
