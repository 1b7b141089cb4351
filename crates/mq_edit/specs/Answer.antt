-- The answer to a model, a trace and edits, as the definitions give it.
use Rattle.std.specs.Prelude.{◌∷◌, ◌++◌, [], ℕ, Bool, true, false, List, codes, decimal, length, Option, Some, None}
use Rattle.mq_core.specs.NetworkRun.{refusal_in}
use Rattle.mq_core.specs.Results.{Refusal}
use Rattle.mq_core.specs.Results.Refusal.{Over as OverRefusal, Past as PastRefusal}
use Rattle.mq_core.specs.declared.model.Network.{Network}
use Rattle.mq_core.specs.declared.model.Rows.{Rows}
use Rattle.mq_edits.specs.Edited.{edited_rows}
use Rattle.mq_edits.specs.Edits.{edits_fault, edits_in}
use Rattle.mq_edits.specs.declared.fault.EditFault.{EditFault}
use Rattle.mq_engine.specs.declared.fault.RunFault.{RunFault}
use Rattle.mq_engine.specs.declared.fault.RunFault.TheVariants as fault
use Rattle.mq_alike.specs.Again.{again, all_blocks}
use Rattle.mq_model.specs.Model.{model_fault}
use Rattle.mq_model.specs.NetworkOf.{network_in}
use Rattle.mq_model.specs.declared.fault.ModelFault.{ModelFault}
use Rattle.mq_report.specs.Text.{report_in}
use Rattle.mq_trace.specs.Trace.{trace_fault, rows_in}
use Rattle.mq_trace.specs.declared.fault.TraceFault.{TraceFault}
use Rattle.mq_edit.specs.Words.{name_at}
use Rattle.mq_edit.specs.declared.outcome.EditOutcome.{EditOutcome}
use Rattle.mq_edit.specs.declared.outcome.EditOutcome.TheVariants.{Model, Trace, Edits, Over, Past, Memory}

-- why the call is refused, or the report
pub data Answer : Type 0 where
  Refused : EditOutcome → Answer
  Reported : List ℕ → Answer

-- the last line: the number of blocks from the first differences on, and of all blocks
abbrev pub again_line : ℕ → ℕ → List ℕ
again_line again all = codes "again " ++ decimal again ++ codes " of " ++ decimal all ++ codes " blocks" ++ 10 ∷ []

-- the report of edited rows, in form 2 and without job lines, and then the line of blocks of 4,096 jobs
abbrev pub edited_report : Network → Rows → Rows → List ℕ
edited_report net rows edited = report_in net edited 2 false ++ again_line (again net rows edited 4096) (all_blocks net edited 4096)

-- why a run is refused, before or after the edits
abbrev pub refused_run : Bool → Refusal → EditOutcome
refused_run edited (OverRefusal node count) = Over edited (record { node = node; count = count })
refused_run edited (PastRefusal late) = Past edited (record { node = late.node; position = late.position; time = late.time })

-- the outcome for a fault of a run, before or after the edits
abbrev pub refused_by : Bool → RunFault → EditOutcome
refused_by edited (fault.Over f) = Over edited f
refused_by edited (fault.Past f) = Past edited f
refused_by edited fault.Memory = Memory

-- what the run over the edited rows gives
abbrev pub after_answer : Network → Rows → Rows → Option Refusal → Answer
after_answer net rows edited (Some refusal) = Refused (refused_run true refusal)
after_answer net rows edited None = Reported (edited_report net rows edited)

-- what the run over the rows gives, and then the run over the edited rows
abbrev pub before_answer : Network → Rows → Rows → Option Refusal → Answer
before_answer net rows edited (Some refusal) = Refused (refused_run false refusal)
before_answer net rows edited None = after_answer net rows edited (refusal_in net edited)

abbrev pub run_answer : Network → Rows → Rows → Answer
run_answer net rows edited = before_answer net rows edited (refusal_in net rows)

-- what edits give for an accepted model and trace
abbrev pub edits_answer : Network → Rows → List ℕ → Option EditFault → Answer
edits_answer net rows edits (Some fault) = Refused (Edits fault)
edits_answer net rows edits None = run_answer net rows (edited_rows rows (edits_in net edits))

-- if the contents of a file aren't known, and no file before it is refused, there is no answer
abbrev pub edits_told : Network → Rows → Option (List ℕ) → Option Answer
edits_told net rows None = None
edits_told net rows (Some edits) = Some (edits_answer net rows edits (edits_fault net (length rows.source) edits))

abbrev pub trace_answer : Network → List ℕ → Option (List ℕ) → Option TraceFault → Option Answer
trace_answer net trace edits (Some fault) = Some (Refused (Trace fault))
trace_answer net trace edits None = edits_told net (rows_in net trace) edits

abbrev pub trace_told : Network → Option (List ℕ) → Option (List ℕ) → Option Answer
trace_told net None edits = None
trace_told net (Some trace) edits = trace_answer net trace edits (trace_fault net trace)

abbrev pub model_answer : List ℕ → Option (List ℕ) → Option (List ℕ) → Option ModelFault → Option Answer
model_answer model trace edits (Some fault) = Some (Refused (Model fault))
model_answer model trace edits None = trace_told (network_in model) trace edits

-- the answer to the bytes of a model, a trace and edits, as far as they are known
abbrev pub answer_told : Option (List ℕ) → Option (List ℕ) → Option (List ℕ) → Option Answer
answer_told None trace edits = None
answer_told (Some model) trace edits = model_answer model trace edits (model_fault model)

-- the answer to the files that three words name
abbrev pub answer_of : (told : List ℕ → Option (List ℕ)) → List (List ℕ) → Option Answer
answer_of told words = answer_told (told (name_at words 0)) (told (name_at words 1)) (told (name_at words 2))
