-- What is told of a file, and what was read of it.
use Rattle.std.proofs.Common.{◌≡◌, ℕ, List, [], ◌++◌, ap, ap₂, refl, subst, sym, ◌∙◌}
use Rattle.std.specs.Prelude.{true, false, IfSome, Some, None}
use Rattle.std.specs.declared.option.Option.{Option}
use Rattle.mq_core.specs.declared.model.Network.{Network}
use Rattle.mq_model.specs.Model.{model_fault}
use Rattle.mq_model.specs.NetworkOf.{network_in}
use Rattle.mq_core.specs.NetworkRun.{refusal_in}
use Rattle.mq_core.specs.Results.{Refusal}
use Rattle.mq_trace.specs.Trace.{rows_in, trace_fault}
use Rattle.mq_trace.specs.declared.fault.TraceFault.{TraceFault}
use Rattle.mq_top.specs.Answer.{answer, answer_over, model_answer, run_answer, trace_answer}
use Rattle.mq_top.specs.declared.stages.Wanted.{Wanted}
use Rattle.mq_top.specs.Ends.{Ends, RefusesModel, RefusesTrace, Taken}
use Rattle.mq_outcome.specs.declared.outcome.Outcome.{Outcome}
use Rattle.mq_outcome.specs.declared.outcome.Outcome.TheVariants.{Model, Trace, ReadFault, Memory}

pub if_told : (told : Option (List ℕ)) (P Q : List ℕ → Type 0) → IfSome told P → ((bytes : List ℕ) → P bytes → Q bytes) → IfSome told Q
if_told None P Q h k = tt
if_told (Some bytes) P Q h k = k bytes h

-- what was read into an empty vector, and handed on
pub read_is : (handed now before bytes : List ℕ) → handed ≡ now → before ≡ [] → now ≡ before ++ bytes → handed ≡ bytes
read_is handed now before bytes a b c = a ∙ (c ∙ ap (λ front. front ++ bytes) b)

-- what holds of what was read holds of what is told
pub if_read : (told : Option (List ℕ)) (read : List ℕ) (P : List ℕ → Type 0) → IfSome told (λ bytes. read ≡ bytes) → P read → IfSome told P
if_read None read P is h = tt
if_read (Some bytes) read P is h = subst P is h

-- a refusal of what was read is one of what is told
pub model_refused : (o : Outcome) (told : Option (List ℕ)) (read : List ℕ) → IfSome told (λ bytes. read ≡ bytes) → RefusesModel o (Some read) → RefusesModel o told
model_refused o (Some bytes) read is refused = subst (λ text. RefusesModel o (Some text)) is refused
model_refused (Model f) None read is refused = (refused.0, tt)
model_refused (ReadFault false) None read is refused = tt
model_refused Memory None read is refused = tt
model_refused _ None read is refused = elim refused [ ]

pub trace_refused : (net : Network) (o : Outcome) (told : Option (List ℕ)) (read : List ℕ) → IfSome told (λ bytes. read ≡ bytes) → RefusesTrace net o (Some read) → RefusesTrace net o told
trace_refused net o (Some bytes) read is refused = subst (λ text. RefusesTrace net o (Some text)) is refused
trace_refused net (Trace f) None read is refused = (refused.0, tt)
trace_refused net (ReadFault true) None read is refused = tt
trace_refused net Memory None read is refused = tt
trace_refused net _ None read is refused = elim refused [ ]

pub told_is : (told : Option (List ℕ)) (bytes : List ℕ) (P : List ℕ → Type 0) → told ≡ Some bytes → IfSome told P → P bytes
told_is told bytes P is h = subst (λ o. IfSome o P) is h

-- an accepted model's network stands for its bytes
pub answer_is : (net : Network) (model trace : List ℕ) (wanted asked : Wanted) → model_fault model ≡ None → net ≡ network_in model → wanted ≡ asked
    → answer_over net trace wanted ≡ answer model trace asked
answer_is net model trace wanted asked accepted is same =
    ap₂ (λ (n : Network) (b : Wanted). answer_over n trace b) is same ∙ ap (model_answer model trace asked) (sym accepted)

-- a fault of a read, and want of memory, may come on the way to each answer to a trace
unread_ends : (net : Network) (trace : List ℕ) (wanted : Wanted) (fault : Option TraceFault) (t : Taken) → Ends (trace_answer net trace wanted fault) (ReadFault true) t
unread_ends net trace wanted (Some fault) t = tt
unread_ends net trace wanted None t = of_run (refusal_in net (rows_in net trace))
  where
    of_run : (why : Option Refusal) → Ends (run_answer net (rows_in net trace) wanted why) (ReadFault true) t
    of_run (Some why) = tt
    of_run None = tt

memory_ends : (net : Network) (trace : List ℕ) (wanted : Wanted) (fault : Option TraceFault) (t : Taken) → Ends (trace_answer net trace wanted fault) Memory t
memory_ends net trace wanted (Some fault) t = tt
memory_ends net trace wanted None t = of_run (refusal_in net (rows_in net trace))
  where
    of_run : (why : Option Refusal) → Ends (run_answer net (rows_in net trace) wanted why) Memory t
    of_run (Some why) = tt
    of_run None = tt

-- a trace that is refused ends the call as the answer has it
pub refused_ends : (net : Network) (told : Option (List ℕ)) (wanted : Wanted) (o : Outcome) (t : Taken) → RefusesTrace net o told → IfSome told (λ trace. Ends (answer_over net trace wanted) o t)
refused_ends net None wanted o t refused = tt
refused_ends net (Some trace) wanted (Trace f) t refused = subst (λ fault. Ends (trace_answer net trace wanted fault) (Trace f) t) (sym refused.1) refl
refused_ends net (Some trace) wanted (ReadFault true) t refused = unread_ends net trace wanted (trace_fault net trace) t
refused_ends net (Some trace) wanted Memory t refused = memory_ends net trace wanted (trace_fault net trace) t
refused_ends net (Some trace) wanted _ t refused = elim refused [ ]
