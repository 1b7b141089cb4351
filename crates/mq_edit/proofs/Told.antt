-- The answer as far as the files are told, and how a call ends by it.
use Rattle.std.proofs.Common.{◌≡◌, ◌∙◌, ◌⊎◌, inl, inr, ℕ, suc, ◌+◌, ◌≤◌, true, false, List, [], ◌∷◌, Option, Some, None, refl, sym, ap, subst, arith, length, get_or, take, Bor, true≢false}
use Rattle.std.specs.Prelude.{IfSome, ◌==◌}
use Rattle.std.proofs.lemmas.Bool.{cases_Bool, eqb-true}
use Rattle.mq_base.specs.Text.{texts}
use Rattle.mq_core.specs.NetworkRun.{refusal_in}
use Rattle.mq_core.specs.Results.{Refusal, refusal_of}
use Rattle.mq_core.specs.Results.Refusal.{Over as OverRefusal, Past as PastRefusal}
use Rattle.mq_core.specs.declared.model.Network.{Network}
use Rattle.mq_core.specs.declared.model.Plan.{Plan}
use Rattle.mq_core.specs.declared.model.Rows.{Rows}
use Rattle.mq_edits.specs.Edited.{edited_rows}
use Rattle.mq_edits.specs.Edits.{edits_fault, edits_in}
use Rattle.mq_edits.specs.declared.edit.Edit.{Edit}
use Rattle.mq_edits.specs.declared.fault.EditFault.{EditFault}
use Rattle.mq_engine.specs.Answer.{IsCause}
use Rattle.mq_engine.specs.declared.fault.RunFault.{RunFault}
use Rattle.mq_engine.specs.declared.fault.RunFault.TheVariants as fault
use Rattle.mq_model.specs.Model.{model_fault}
use Rattle.mq_model.specs.NetworkOf.{network_in}
use Rattle.mq_model.specs.declared.fault.ModelFault.{ModelFault}
use Rattle.mq_trace.specs.Trace.{rows_in, trace_fault}
use Rattle.mq_trace.specs.declared.fault.TraceFault.{TraceFault}
use Rattle.mq_edit.specs.Answer.{Answer, after_answer, answer_told, before_answer, edited_report, edits_answer, edits_told, model_answer, refused_by, run_answer, trace_answer, trace_told}
use Rattle.mq_edit.specs.Answer.Answer.{Reported}
use Rattle.mq_edit.specs.Ends.{Breaks, Ends, IsText, RefusesModel}
use Rattle.mq_edit.specs.Words.{name_at, names_read, refuses_words}
use Rattle.mq_edit.proofs.FileFacts.{if_told}
use Rattle.mq_edit.specs.declared.outcome.EditOutcome.{EditOutcome}
use Rattle.mq_edit.specs.declared.outcome.EditOutcome.TheVariants.{Done, Model, ReadFault, WriteFault, Memory}

-- ---- a break on the way

after_breaks : (net : Network) (rows edited : Rows) (r : Option Refusal) (o : EditOutcome) → Breaks 3 o → Ends (after_answer net rows edited r) o
after_breaks net rows edited None o b = inr (inr b)
after_breaks net rows edited (Some (OverRefusal node count)) o b = inr b
after_breaks net rows edited (Some (PastRefusal late)) o b = inr b

before_breaks : (net : Network) (rows edited : Rows) (r : Option Refusal) (o : EditOutcome) → Breaks 3 o → Ends (before_answer net rows edited r) o
before_breaks net rows edited None o b = after_breaks net rows edited (refusal_in net edited) o b
before_breaks net rows edited (Some (OverRefusal node count)) o b = inr b
before_breaks net rows edited (Some (PastRefusal late)) o b = inr b

edits_breaks : (net : Network) (rows : Rows) (bytes : List ℕ) (f : Option EditFault) (o : EditOutcome) → Breaks 3 o → Ends (edits_answer net rows bytes f) o
edits_breaks net rows bytes None o b = before_breaks net rows _ (refusal_in net rows) o b
edits_breaks net rows bytes (Some f) o b = inr b

-- a break at the trace, or before it
breaks_more : (n m : ℕ) (o : EditOutcome) → n ≤ m → Breaks n o → Breaks m o
breaks_more n m (ReadFault file) less b = omega (arith, less, b)
breaks_more n m Memory less b = tt
breaks_more n m _ less b = elim b [ ]

edits_told_breaks : (net : Network) (rows : Rows) (edits : Option (List ℕ)) (o : EditOutcome) → Breaks 3 o → IfSome (edits_told net rows edits) (λ answer. Ends answer o)
edits_told_breaks net rows None o b = tt
edits_told_breaks net rows (Some bytes) o b = edits_breaks net rows bytes (edits_fault net (length rows.source) bytes) o b

trace_breaks : (net : Network) (bytes : List ℕ) (edits : Option (List ℕ)) (f : Option TraceFault) (o : EditOutcome) → Breaks 2 o → IfSome (trace_answer net bytes edits f) (λ answer. Ends answer o)
trace_breaks net bytes edits None o b = edits_told_breaks net (rows_in net bytes) edits o (breaks_more 2 3 o (omega arith) b)
trace_breaks net bytes edits (Some f) o b = inr b

trace_told_breaks : (net : Network) (trace edits : Option (List ℕ)) (o : EditOutcome) → Breaks 2 o → IfSome (trace_told net trace edits) (λ answer. Ends answer o)
trace_told_breaks net None edits o b = tt
trace_told_breaks net (Some bytes) edits o b = trace_breaks net bytes edits (trace_fault net bytes) o b

model_breaks : (bytes : List ℕ) (trace edits : Option (List ℕ)) (f : Option ModelFault) (o : EditOutcome) → Breaks 1 o → IfSome (model_answer bytes trace edits f) (λ answer. Ends answer o)
model_breaks bytes trace edits None o b = trace_told_breaks (network_in bytes) trace edits o (breaks_more 1 2 o (omega arith) b)
model_breaks bytes trace edits (Some f) o b = inr b

-- ---- refusals

-- the run after them is
pub refused_after : (plan : Plan) (rows edited : Rows) (f : RunFault) → refusal_in plan.net rows ≡ None → refusal_of plan edited ≡ refusal_in plan.net edited → IsCause plan edited f → Ends (run_answer plan.net rows edited) (refused_by true f)
refused_after plan rows edited (fault.Over f) none same cause = rw (none, sym same ∙ cause) (inl refl)
refused_after plan rows edited (fault.Past f) none same cause = rw (none, sym same ∙ cause) (inl refl)
refused_after plan rows edited fault.Memory none same cause = before_breaks plan.net rows edited (refusal_in plan.net rows) Memory tt

-- neither is
pub reported : (net : Network) (rows edited : Rows) → refusal_in net rows ≡ None → refusal_in net edited ≡ None → run_answer net rows edited ≡ Reported (edited_report net rows edited)
reported net rows edited none none' = rw (none, none') refl

pub written_ends : (a : Answer) (text : List ℕ) (o : EditOutcome) → a ≡ Reported text → (o ≡ Done) ⊎ ((o ≡ WriteFault) ⊎ (o ≡ Memory)) → Ends a o
written_ends a text o is (inl done) = rw is (inl done)
written_ends a text o is (inr (inl fault)) = rw is (inr (inl fault))
written_ends a text o is (inr (inr memory)) = rw (is, memory) (inr (inr tt))

-- the text of a run's answer
after_text : (net : Network) (rows edited : Rows) (r : Option Refusal) → IsText (edited_report net rows edited) (after_answer net rows edited r)
after_text net rows edited None = refl
after_text net rows edited (Some refusal) = tt

before_text : (net : Network) (rows edited : Rows) (r : Option Refusal) → IsText (edited_report net rows edited) (before_answer net rows edited r)
before_text net rows edited None = after_text net rows edited (refusal_in net edited)
before_text net rows edited (Some refusal) = tt

-- ---- the edits

pub edits_text : (net : Network) (rows : Rows) (n : ℕ) (told : Option (List ℕ)) (edits : List Edit) → n ≡ length rows.source
    → IfSome told (λ bytes. (edits_fault net n bytes ≡ None) × (edits ≡ edits_in net bytes)) → IfSome (edits_told net rows told) (IsText (edited_report net rows (edited_rows rows edits)))
edits_text net rows n None edits same accepted = tt
edits_text net rows n (Some bytes) edits same accepted =
    let none = rw same at accepted.0 in
    rw (none, accepted.1) (before_text net rows (edited_rows rows (edits_in net bytes)) (refusal_in net rows))

-- ---- the trace

pub trace_end : (net : Network) (rows : Rows) (trace edits edits' : Option (List ℕ)) (P : Answer → Type 0) → IfSome trace (λ bytes. (trace_fault net bytes ≡ None) × (rows ≡ rows_in net bytes)) → edits' ≡ edits
    → IfSome (edits_told net rows edits') P → IfSome (trace_told net trace edits) P
trace_end net rows None edits edits' P accepted same ends = tt
trace_end net rows (Some bytes) edits edits' P accepted same ends =
    rw accepted.0 (subst (λ e. IfSome (edits_told net (rows_in net bytes) e) P) same (subst (λ r. IfSome (edits_told net r edits') P) accepted.1 ends))

-- ---- the model

pub model_end : (net : Network) (told trace edits : Option (List ℕ)) (P : Answer → Type 0) → IfSome told (λ bytes. (model_fault bytes ≡ None) × (net ≡ network_in bytes))
    → IfSome (trace_told net trace edits) P → IfSome (answer_told told trace edits) P
model_end net None trace edits P accepted ends = tt
model_end net (Some bytes) trace edits P accepted ends = rw accepted.0 (subst (λ n. IfSome (trace_told n trace edits) P) accepted.1 ends)

pub model_refused : (told trace edits : Option (List ℕ)) (o : EditOutcome) → RefusesModel told o → IfSome (answer_told told trace edits) (λ answer. Ends answer o)
model_refused None trace edits o r = tt
model_refused (Some bytes) trace edits (Model f) r = let is = r.1 in rw is (inl refl)
model_refused (Some bytes) trace edits (ReadFault file) r = model_breaks bytes trace edits (model_fault bytes) (ReadFault file) (omega (arith, r))
model_refused (Some bytes) trace edits Memory r = model_breaks bytes trace edits (model_fault bytes) Memory tt
model_refused (Some bytes) trace edits _ r = elim r [ ]

-- ---- the names

pub three : (words : List (List ℕ)) → refuses_words words ≡ false → length words ≡ 3
three words fine = elim (cases_Bool (length words == 3)) [
  | inl same ↦ eqb-true (length words) 3 same
  | inr other ↦ let made = rw other at fine in absurd (true≢false made)
]

-- words that aren't refused are three names
pub names_are : (words : List (Bor (List ℕ))) (d : Bor (List ℕ)) → refuses_words (texts words) ≡ false → texts words ≡ (get_or words 0 d).now ∷ (get_or words 1 d).now ∷ (get_or words 2 d).now ∷ []
names_are [] d fine = let long = three [] fine in absurd (omega (arith, long))
names_are (a ∷ []) d fine = let long = three (a.now ∷ []) fine in absurd (omega (arith, long))
names_are (a ∷ b ∷ []) d fine = let long = three (a.now ∷ b.now ∷ []) fine in absurd (omega (arith, long))
names_are (a ∷ b ∷ c ∷ []) d fine = refl
names_are (a ∷ b ∷ c ∷ e ∷ words) d fine = let long = three (a.now ∷ b.now ∷ c.now ∷ e.now ∷ texts words) fine in absurd (omega (arith, long))

-- what holds of the answer by the names holds of that by the words
pub named : (told : List ℕ → Option (List ℕ)) (words : List (List ℕ)) (m t e : List ℕ) (P : Answer → Type 0) → words ≡ m ∷ t ∷ e ∷ [] → IfSome (answer_told (told m) (told t) (told e)) P
    → IfSome (answer_told (told (name_at words 0)) (told (name_at words 1)) (told (name_at words 2))) P
named told words m t e P is h = subst (λ ws. IfSome (answer_told (told (name_at ws 0)) (told (name_at ws 1)) (told (name_at ws 2))) P) (sym is) h

-- behind the model, where the files were told so before it was read
pub model_behind : (net : Network) (told trace edits trace' edits' : Option (List ℕ)) (P : Answer → Type 0) → trace' ≡ trace → edits' ≡ edits → IfSome told (λ bytes. (model_fault bytes ≡ None) × (net ≡ network_in bytes))
    → IfSome (trace_told net trace' edits') P → IfSome (answer_told told trace edits) P
model_behind net told trace edits trace' edits' P same same' accepted ends =
    model_end net told trace edits P accepted (subst (λ t. IfSome (trace_told net t edits) P) same (subst (λ e. IfSome (trace_told net trace' e) P) same' ends))

-- a fault of the trace is that for the network of the model
pub trace_named : (told : List ℕ → Option (List ℕ)) (words : List (List ℕ)) (m t e : List ℕ) (net : Network) (trace' : Option (List ℕ)) (f : TraceFault) → words ≡ m ∷ t ∷ e ∷ [] → trace' ≡ told t
    → IfSome (told m) (λ bytes. (model_fault bytes ≡ None) × (net ≡ network_in bytes)) → IfSome trace' (λ bytes. trace_fault net bytes ≡ Some f)
    → IfSome (told (name_at words 0)) (λ model. IfSome (told (name_at words 1)) (λ bytes. trace_fault (network_in model) bytes ≡ Some f))
trace_named told words m t e net trace' f is same accepted fault =
    let here : IfSome (told m) (λ model. IfSome (told t) (λ bytes. trace_fault (network_in model) bytes ≡ Some f)) =
    if_told (told m) _ _ accepted (λ model a. subst (λ n. IfSome (told t) (λ bytes. trace_fault n bytes ≡ Some f)) a.1 (subst (λ o. IfSome o (λ bytes. trace_fault net bytes ≡ Some f)) same fault)) in
    subst (λ ws. IfSome (told (name_at ws 0)) (λ model. IfSome (told (name_at ws 1)) (λ bytes. trace_fault (network_in model) bytes ≡ Some f))) (sym is) here

-- the names that were read
pub first_names : (n : ℕ) (m t e : List ℕ) → m ∷ t ∷ take n (e ∷ []) ≡ take (n + 2) (m ∷ t ∷ e ∷ [])
first_names n m t e =
    let more : n + 2 ≡ suc (suc n) = omega arith in
    sym (ap (λ k. take k (m ∷ t ∷ e ∷ [])) more)

-- words that aren't refused are read
pub words_read : (words : List (List ℕ)) → refuses_words words ≡ false → names_read words ≡ words
words_read words fine = rw fine refl

pub none_read : (words : List (List ℕ)) → refuses_words words ≡ true → 0 ≡ length (names_read words)
none_read words refused = rw refused refl
