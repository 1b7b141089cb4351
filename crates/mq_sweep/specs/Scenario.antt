-- The result of running one model over a trace: its exit status, and what it writes to both outputs.
use Rattle.std.specs.Prelude.{ℕ, List, [], ◌++◌, false}
use Rattle.mq_core.specs.Results.{Refusal}
use Rattle.mq_core.specs.Results.Refusal.{Over as OverRefusal, Past as PastRefusal}
use Rattle.mq_model.specs.NetworkOf.{network_in}
use Rattle.mq_outcome.specs.Lines.{line_text, name_of}
use Rattle.mq_outcome.specs.Status.{status_of}
use Rattle.mq_outcome.specs.declared.outcome.Outcome.{Outcome}
use Rattle.mq_outcome.specs.declared.outcome.Outcome.TheVariants.{Done, Model, Trace, Past, Over}
use Rattle.mq_top.specs.Answer.{Answer, answer}
use Rattle.mq_top.specs.Answer.Answer.{ModelRefused, TraceRefused, Refused, Reported}

-- how a refused run ends
abbrev pub outcome_of_refusal : Refusal → Outcome
outcome_of_refusal (PastRefusal visit) = Past (record { node = visit.node; position = visit.position; time = visit.time })
outcome_of_refusal (OverRefusal node count) = Over (record { node = node; count = count })

-- how a run with this answer ends if no device fails and memory lasts
abbrev pub outcome_of : Answer → Outcome
outcome_of (ModelRefused fault) = Model fault
outcome_of (TraceRefused fault) = Trace fault
outcome_of (Refused why) = outcome_of_refusal why
outcome_of (Reported text) = Done

-- what it writes to its output: the report, if there is one
abbrev pub output_of : Answer → List ℕ
output_of (ModelRefused fault) = []
output_of (TraceRefused fault) = []
output_of (Refused why) = []
output_of (Reported text) = text

-- the answer to a model over a trace, with form 2 of the report and no job lines
abbrev pub scenario_answer : (trace model : List ℕ) → Answer
scenario_answer trace model = answer model trace (record { form = 2; jobs = false })

-- its error line
abbrev pub line_of : List ℕ → Answer → List ℕ
line_of model a = line_text (name_of (network_in model) (outcome_of a)) (outcome_of a)

-- The exit status of the run. It and the text are unfolded by name only, so that no goal of the sweep looks into
-- a run.
unfoldable pub scenario_status : (trace model : List ℕ) → ℕ
scenario_status trace model = status_of (outcome_of (scenario_answer trace model))

-- what the run writes: to its output, and then its error line
unfoldable pub scenario_text : (trace model : List ℕ) → List ℕ
scenario_text trace model = output_of (scenario_answer trace model) ++ line_of model (scenario_answer trace model)
