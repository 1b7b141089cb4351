-- The answer to a model and a trace, by the definitions.
use Rattle.std.specs.Prelude.{ℕ, List, Option, Some, None, unwrap_or}
use Rattle.mq_core.specs.NetworkRun.{refusal_in}
use Rattle.mq_core.specs.Results.{Refusal}
use Rattle.mq_core.specs.declared.model.Network.{Network}
use Rattle.mq_core.specs.declared.model.Rows.{Rows}
use Rattle.mq_model.specs.Model.{model_fault}
use Rattle.mq_model.specs.NetworkOf.{network_in}
use Rattle.mq_model.specs.declared.fault.ModelFault.{ModelFault}
use Rattle.mq_report.specs.Text.{report_in}
use Rattle.mq_trace.specs.Trace.{trace_fault, rows_in}
use Rattle.mq_trace.specs.declared.fault.TraceFault.{TraceFault}
use Rattle.mq_words.specs.Words.{form_asked, jobs_asked}
use Rattle.mq_top.specs.declared.stages.Wanted.{Wanted}

-- what the report contains if the arguments are valid: the form asked for, or 2, and whether job lines are asked for
abbrev pub wanted_by : List (List ℕ) → Wanted
wanted_by words = record { form = unwrap_or (form_asked words) 2; jobs = jobs_asked words }

-- the first error in the model, the first error in the trace, why the run is refused, or the report
pub data Answer : Type 0 where
  ModelRefused : ModelFault → Answer
  TraceRefused : TraceFault → Answer
  Refused : Refusal → Answer
  Reported : List ℕ → Answer

-- the report of the sequential event-list run, with the contents that are wanted, unless the run is refused: a node has too
-- many visits, or a visit departs after the bound
abbrev pub run_answer : Network → Rows → Wanted → Option Refusal → Answer
run_answer net rows wanted (Some refusal) = Refused refusal
run_answer net rows wanted None = Reported (report_in net rows wanted.form wanted.jobs)

-- the answer to a trace over a valid model
abbrev pub trace_answer : Network → List ℕ → Wanted → Option TraceFault → Answer
trace_answer net trace wanted (Some fault) = TraceRefused fault
trace_answer net trace wanted None = run_answer net (rows_in net trace) wanted (refusal_in net (rows_in net trace))

abbrev pub answer_over : Network → List ℕ → Wanted → Answer
answer_over net trace wanted = trace_answer net trace wanted (trace_fault net trace)

abbrev pub model_answer : List ℕ → List ℕ → Wanted → Option ModelFault → Answer
model_answer model trace wanted (Some fault) = ModelRefused fault
model_answer model trace wanted None = answer_over (network_in model) trace wanted

-- the answer to the bytes of a model and of a trace
abbrev pub answer : List ℕ → List ℕ → Wanted → Answer
answer model trace wanted = model_answer model trace wanted (model_fault model)
