-- What follows for the answer, and for how a run ends, where the model and the trace are accepted.
use Rattle.std.proofs.Common.{◌≡◌, ◌∙◌, ℕ, Bool, List, [], Option, Some, None, is_some, refl, sym, ap, ap₂, subst, true≢false}
use Rattle.std.specs.Prelude.{◌≢◌}
use Rattle.mq_core.specs.declared.model.Network.{Network}
use Rattle.mq_gen.specs.Accepted.{IsAccepted}
use Rattle.mq_gen.specs.Made.{made_model, made_trace}
use Rattle.mq_model.specs.NetworkOf.{network_in}
use Rattle.mq_report.specs.Text.{report_in}
use Rattle.mq_trace.specs.Trace.{rows_in}
use Rattle.mq_top.specs.Answer.{answer, model_answer, run_answer, trace_answer}
use Rattle.mq_top.specs.Answer.Answer.{Reported}
use Rattle.mq_top.specs.declared.stages.Wanted.{Wanted}
use Rattle.mq_top.specs.Ends.{Ends, IsOfMade, Taken}
use Rattle.mq_outcome.specs.Lines.{line_text, name_of}
use Rattle.mq_outcome.specs.declared.outcome.Outcome.{Outcome}
use Rattle.mq_outcome.specs.declared.outcome.Outcome.TheVariants.{Done, ReadFault, WriteFault, Memory}

pub some_is_none : {A : Type 0} {B : Type 0} (o : Option A) (x : A) → o ≡ Some x → o ≡ None → B
some_is_none o x some none = absurd (true≢false (sym (ap is_some some) ∙ ap is_some none))

-- the answer is a report
accepted_answer : (model trace : List ℕ) (wanted : Wanted) → IsAccepted model trace → answer model trace wanted ≡ Reported (report_in (network_in model) (rows_in (network_in model) trace) wanted.form wanted.jobs)
accepted_answer model trace wanted a =
    ap (model_answer model trace wanted) a.model
    ∙ (ap (trace_answer (network_in model) trace wanted) a.trace ∙ ap (run_answer (network_in model) (rows_in (network_in model) trace) wanted) a.run)

-- a run ends with none of a refusal
pub made_outcome : (model trace : List ℕ) (wanted : Wanted) (o : Outcome) (t : Taken) → IsAccepted model trace → Ends (answer model trace wanted) o t → ((second : Bool) → o ≢ ReadFault second) → IsOfMade o
made_outcome model trace wanted o t a ends unread = go o (subst (λ b. Ends b o t) (accepted_answer model trace wanted a) ends) unread
  where
    go : (p : Outcome) → Ends (Reported (report_in (network_in model) (rows_in (network_in model) trace) wanted.form wanted.jobs)) p t → ((second : Bool) → p ≢ ReadFault second) → IsOfMade p
    go Done e u = tt
    go WriteFault e u = tt
    go Memory e u = tt
    go (ReadFault second) e u = absurd (u second refl)
    go _ e u = elim e [ ]

-- its line speaks of no name
pub made_line : (net : Network) (o : Outcome) → IsOfMade o → line_text (name_of net o) o ≡ line_text [] o
made_line net Done made = refl
made_line net WriteFault made = refl
made_line net Memory made = refl
made_line net _ made = elim made [ ]

-- the answer for one number, with a report as it is wanted
pub same_answer : (number asked : ℕ) (wanted said : Wanted) → number ≡ asked → wanted ≡ said → answer (made_model asked) (made_trace asked) said ≡ answer (made_model number) (made_trace number) wanted
same_answer number asked wanted said same_number same_wanted = ap₂ (λ (n : ℕ) (b : Wanted). answer (made_model n) (made_trace n) b) (sym same_number) (sym same_wanted)
