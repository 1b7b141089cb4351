-- What holds of an outcome by where the call ended: before the model was read, at the model, or once it was accepted.
use Rattle.std.proofs.Common.{◌≡◌, ◌∙◌, ◌==◌, ◌⊎◌, inl, inr, ℕ, ◌-◌, ◌^◌, Bool, true, false, not, List, [], ◌∷◌, length, Option, Some, None, is_some, refl, sym, ap, subst, true≢false, arith}
use Rattle.std.specs.Prelude.{◌≢◌, IfSome, IsTrue, option_and_then, unwrap_or, if◌then◌else◌}
use Rattle.std.proofs.lemmas.Bool.{eqb-true}
use Rattle.mq_base.specs.Text.{number_of}
use Rattle.mq_core.specs.NetworkRun.{refusal_in}
use Rattle.mq_core.specs.Results.{Refusal}
use Rattle.mq_core.specs.declared.model.Network.{Network}
use Rattle.mq_core.specs.declared.model.Rows.{Rows}
use Rattle.mq_model.specs.Model.{model_fault}
use Rattle.mq_model.specs.declared.fault.ModelFault.{ModelFault}
use Rattle.mq_outcome.specs.Lines.{name_of}
use Rattle.mq_outcome.specs.declared.outcome.Outcome.{Outcome}
use Rattle.mq_outcome.specs.declared.outcome.Outcome.TheVariants.{Done, Usage, Model, Trace, Past, Over, ReadFault, WriteFault, Memory}
use Rattle.mq_outside.specs.Reading.{IsReadCount, is_unread}
use Rattle.mq_outside.specs.Writing.{Writes}
use Rattle.mq_outside.specs.Writing.Writing.{Nothing}
use Rattle.mq_report.specs.Text.{report_in}
use Rattle.mq_trace.specs.Trace.{rows_in, trace_fault}
use Rattle.mq_top.proofs.MadeRuns.{some_is_none}
use Rattle.mq_top.specs.Answer.{Answer, answer, answer_over, model_answer, run_answer, trace_answer}
use Rattle.mq_top.specs.Answer.Answer.{ModelRefused, TraceRefused, Refused, Reported}
use Rattle.mq_top.specs.declared.stages.Wanted.{Wanted}
use Rattle.mq_top.specs.Ends.{Ends, IsLate, IsOfMade, IsText, RefusesCall, RefusesModel, RefusesTrace, Taken, names_read, names_unless, reading_of, writing_of}
use Rattle.mq_words.specs.Words.{Makes, Names, asks_made, made_option, names_needed, refuses_words, usage_fault, value_of, words_left}
use Rattle.mq_words.specs.declared.fault.UsageFault.{UsageFault}
use Rattle.mq_words.specs.declared.fault.UsageFault.TheVariants.{Words, Form}

-- ---- by cases on where it ended

by_call : (words : List (List ℕ)) (P : Outcome → Type 0) (o : Outcome) → ((f : UsageFault) → usage_fault words ≡ Some f → P (Usage f)) → (refuses_words words ≡ false → P Memory) → RefusesCall words o → P o
by_call words P (Usage f) usage memory r = usage f r
by_call words P Memory usage memory r = memory r
by_call words P _ usage memory r = elim r [ ]

by_model : (told : Option (List ℕ)) (P : Outcome → Type 0) (o : Outcome) → ((f : ModelFault) → IfSome told (λ bytes. model_fault bytes ≡ Some f) → P (Model f)) → P (ReadFault false) → P Memory → RefusesModel o told → P o
by_model told P (Model f) refused unread memory r = refused f r.1
by_model told P (ReadFault false) refused unread memory r = unread
by_model told P Memory refused unread memory r = memory
by_model told P _ refused unread memory r = elim r [ ]

-- want of memory, and a fault of the first read, may come on the way to each answer
at_memory : (a : Answer) (t : Taken) → Ends a Memory t
at_memory (ModelRefused _) t = tt
at_memory (TraceRefused _) t = tt
at_memory (Refused _) t = tt
at_memory (Reported _) t = tt

at_first : (a : Answer) (t : Taken) → Ends a (ReadFault false) t
at_first (ModelRefused _) t = tt
at_first (TraceRefused _) t = tt
at_first (Refused _) t = tt
at_first (Reported _) t = tt

-- ---- before the model is read

pub call_ends : (words : List (List ℕ)) (o : Outcome) (a : Answer) (t : Taken) → RefusesCall words o → usage_fault words ≡ None → Ends a o t
call_ends words o a t r none = by_call words (λ p. Ends a p t) o (λ f e. some_is_none _ f e none) (λ _. at_memory a t) r

pub call_made : (words : List (List ℕ)) (o : Outcome) → RefusesCall words o → usage_fault words ≡ None → IsOfMade o
call_made words o r none = by_call words IsOfMade o (λ f e. some_is_none _ f e none) (λ _. tt) r

pub call_model : (words : List (List ℕ)) (o : Outcome) (told : Option (List ℕ)) → RefusesCall words o → usage_fault words ≡ None → RefusesModel o told
call_model words o told r none = by_call words (λ p. RefusesModel p told) o (λ f e. some_is_none _ f e none) (λ _. tt) r

pub call_usage : (words : List (List ℕ)) (o : Outcome) (fault : UsageFault) → RefusesCall words o → usage_fault words ≡ Some fault → (o ≡ Usage fault) ⊎ (o ≡ Memory)
call_usage words o fault r is =
    by_call words (λ p. (p ≡ Usage fault) ⊎ (p ≡ Memory)) o (λ f e. inl (ap (λ (x : Option UsageFault). Usage (unwrap_or x fault)) (sym e ∙ is))) (λ _. inr refl) r

-- words that the rule refuses aren't accepted
refused_first : (words : List (List ℕ)) → IsTrue (refuses_words words) → usage_fault words ≡ Some Words
refused_first words refused = rw refused refl

pub not_refused : {B : Type 0} (words : List (List ℕ)) → usage_fault words ≡ None → IsTrue (refuses_words words) → B
not_refused words accepted refused = some_is_none _ Words (refused_first words refused) accepted

pub call_words : (words : List (List ℕ)) (o : Outcome) → RefusesCall words o → IsTrue (refuses_words words) → o ≡ Usage Words
call_words words o r refused =
    by_call words (λ p. p ≡ Usage Words) o (λ f e. ap (λ (x : Option UsageFault). Usage (unwrap_or x Words)) (sym e ∙ refused_first words refused)) (λ pass. absurd (true≢false (sym refused ∙ pass))) r

pub call_count : (words : List (List ℕ)) (o : Outcome) → RefusesCall words o → IsReadCount (reading_of o) (length (names_read words)) 0
call_count words o r =
    by_call words (λ p. IsReadCount (reading_of p) (length (names_read words)) 0) o (λ f e. ap (λ (x : Option UsageFault). length (names_unless x (words_left words))) (sym e)) (λ _. omega arith) r

pub call_unwritten : (words : List (List ℕ)) (o : Outcome) → RefusesCall words o → writing_of o ≡ Nothing
call_unwritten words o r = by_call words (λ p. writing_of p ≡ Nothing) o (λ f _. refl) (λ _. refl) r

pub call_name : (words : List (List ℕ)) (o : Outcome) (net : Network) → RefusesCall words o → [] ≡ name_of net o
call_name words o net r = by_call words (λ p. [] ≡ name_of net p) o (λ f _. refl) (λ _. refl) r

-- ---- at the model

pub model_ends : (model trace : List ℕ) (wanted : Wanted) (o : Outcome) (t : Taken) → RefusesModel o (Some model) → Ends (answer model trace wanted) o t
model_ends model trace wanted o t r =
    by_model (Some model) (λ p. Ends (answer model trace wanted) p t) o (λ f e. subst (λ fault. Ends (model_answer model trace wanted fault) (Model f) t) (sym e) refl)
    (at_first (answer model trace wanted) t) (at_memory (answer model trace wanted) t) r

pub model_count : (told : Option (List ℕ)) (o : Outcome) → RefusesModel o told → IsReadCount (reading_of o) 2 1
model_count told o r = by_model told (λ p. IsReadCount (reading_of p) 2 1) o (λ f _. (refl, omega arith, omega arith)) (refl, omega arith, omega arith) (omega arith) r

pub model_unwritten : (told : Option (List ℕ)) (o : Outcome) → RefusesModel o told → writing_of o ≡ Nothing
model_unwritten told o r = by_model told (λ p. writing_of p ≡ Nothing) o (λ f _. refl) refl refl r

pub model_name : (told : Option (List ℕ)) (o : Outcome) (net : Network) → RefusesModel o told → [] ≡ name_of net o
model_name told o net r = by_model told (λ p. [] ≡ name_of net p) o (λ f _. refl) refl refl r

-- ---- at the trace, and behind it

pub trace_unwritten : (net : Network) (o : Outcome) (told : Option (List ℕ)) → RefusesTrace net o told → writing_of o ≡ Nothing
trace_unwritten net (Trace f) told r = refl
trace_unwritten net (ReadFault true) told r = refl
trace_unwritten net Memory told r = refl
trace_unwritten net _ told r = elim r [ ]

pub not_unread : (o : Outcome) → ((second : Bool) → o ≢ ReadFault second) → is_unread (reading_of o) ≡ false
not_unread (ReadFault second) u = absurd (u second refl)
not_unread Done u = refl
not_unread (Usage f) u = refl
not_unread (Model f) u = refl
not_unread (Trace f) u = refl
not_unread (Past f) u = refl
not_unread (Over f) u = refl
not_unread WriteFault u = refl
not_unread Memory u = refl

-- ---- once the model was accepted

pub late_count : (o : Outcome) → IsLate o → IsReadCount (reading_of o) 2 2
late_count Done late = refl
late_count (Trace _) late = (refl, omega arith, omega arith)
late_count (Past _) late = refl
late_count (Over _) late = refl
late_count (ReadFault true) late = (refl, omega arith, omega arith)
late_count WriteFault late = refl
late_count Memory late = omega arith
late_count _ late = elim late [ ]

-- the names that were read
pub named_read : (words : List (List ℕ)) (m t : List ℕ) → Names words m t → names_read words ≡ m ∷ t ∷ []
named_read words m t names = ap (λ (x : Option UsageFault). names_unless x (words_left words)) names.accepted ∙ names.named

-- ---- a made input

pub makes_asks : (words : List (List ℕ)) (n : ℕ) → Makes words n → asks_made words ≡ true
makes_asks words n makes = some_in (value_of made_option words) makes.made
  where
    some_in : (o : Option (List ℕ)) → option_and_then (λ text. number_of text (2 ^ 64 - 1)) o ≡ Some n → is_some o ≡ true
    some_in None e = some_is_none None n e refl
    some_in (Some text) e = refl

-- as many names are left as accepted words need
pub accepted_fit : (words : List (List ℕ)) → usage_fault words ≡ None → (length (words_left words) == names_needed words) ≡ true
accepted_fit words accepted = passes (refuses_words words) (length (words_left words) == names_needed words) _ accepted
  where
    passes : (refused fits : Bool) (rest : Option UsageFault) → (if refused then Some Words else if not fits then Some Form else rest) ≡ None → fits ≡ true
    passes true fits rest e = some_is_none _ Words refl e
    passes false true rest e = refl
    passes false false rest e = some_is_none _ Form refl e

none_left : (left : List (List ℕ)) (made : Bool) → made ≡ true → (length left == (if made then 0 else 2)) ≡ true → left ≡ []
none_left [] made e fits = refl
none_left (x ∷ left) made e fits =
    let long : length (x ∷ left) ≡ 0 = eqb-true (length (x ∷ left)) 0 (ap (λ (b : Bool). length (x ∷ left) == (if b then 0 else 2)) (sym e) ∙ fits) in
    absurd (omega (arith, long))

-- words that ask for a made input have no file read
pub asked_names : (words : List (List ℕ)) → asks_made words ≡ true → names_read words ≡ []
asked_names words asked = by_fault (usage_fault words) refl
  where
    by_fault : (fault : Option UsageFault) → usage_fault words ≡ fault → names_unless fault (words_left words) ≡ []
    by_fault None e = none_left (words_left words) (asks_made words) asked (accepted_fit words e)
    by_fault (Some fault) e = refl

pub made_count : (words : List (List ℕ)) (o : Outcome) → asks_made words ≡ true → IsOfMade o → IsReadCount (reading_of o) (length (names_read words)) 0
made_count words Done asked made = ap length (sym (asked_names words asked))
made_count words WriteFault asked made = ap length (sym (asked_names words asked))
made_count words Memory asked made = omega arith
made_count words _ asked made = elim made [ ]

-- ---- what is written

pub writes_nothing : {S : Type 0} (taken : S → Option (List ℕ)) (sure faults : S → ℕ) (out : S) (o : Outcome) (P : List ℕ → Type 0) → writing_of o ≡ Nothing → Writes taken sure faults out out (writing_of o) P
writes_nothing taken sure faults out o P none = subst (λ w. Writes taken sure faults out out w P) (sym none) refl

run_text : (net : Network) (rows : Rows) (wanted : Wanted) (text : List ℕ) (why : Option Refusal) → text ≡ report_in net rows wanted.form wanted.jobs → IsText text (run_answer net rows wanted why)
run_text net rows wanted text None is = is
run_text net rows wanted text (Some why) is = tt

-- the report of rows that were read is that of the answer
pub answer_text : (net : Network) (rows : Rows) (trace : List ℕ) (wanted : Wanted) (text : List ℕ) → trace_fault net trace ≡ None → rows ≡ rows_in net trace → text ≡ report_in net rows wanted.form wanted.jobs
    → IsText text (answer_over net trace wanted)
answer_text net rows trace wanted text none same is =
    subst (λ fault. IsText text (trace_answer net trace wanted fault)) (sym none)
    (run_text net (rows_in net trace) wanted text (refusal_in net (rows_in net trace)) (is ∙ ap (λ (r : Rows). report_in net r wanted.form wanted.jobs) same))

-- so it is where the trace is told
pub told_text : (net : Network) (rows : Rows) (told : Option (List ℕ)) (wanted : Wanted) (text : List ℕ) → IfSome told (λ trace. (trace_fault net trace ≡ None) × (rows ≡ rows_in net trace)) → text ≡ report_in net rows wanted.form wanted.jobs
    → IfSome told (λ trace. IsText text (answer_over net trace wanted))
told_text net rows None wanted text accepted is = tt
told_text net rows (Some trace) wanted text accepted is = answer_text net rows trace wanted text accepted.0 accepted.1 is
