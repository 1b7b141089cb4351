-- The line that each outcome writes to standard error.
use Rattle.std.specs.Prelude.{◌≡◌, ◌≤◌, ℕ, List, length, [], ◌∷◌, ◌++◌, codes, decimal, true, false, Option, Some, None, slice_get}
use Rattle.std.specs.Io.KnownBytes.{append_known}
use Rattle.mq_outside.specs.Outside.{TakesPrefix, Rose}
use Rattle.mq_core.specs.declared.model.Network.{Network}
use Rattle.mq_core.specs.declared.model.Node.{Node}
use Rattle.mq_core.specs.declared.refusals.OverFault.{OverFault}
use Rattle.mq_core.specs.declared.refusals.PastFault.{PastFault}
use Rattle.mq_model.specs.declared.fault.ModelFault.{ModelFault}
use Rattle.mq_model.specs.declared.fault.ModelFault.TheVariants as model
use Rattle.mq_trace.specs.declared.fault.TraceFault.{TraceFault}
use Rattle.mq_trace.specs.declared.fault.TraceFault.TheVariants as trace
use Rattle.mq_outcome.specs.declared.outcome.Outcome.{Outcome}
use Rattle.mq_outcome.specs.declared.outcome.Outcome.TheVariants.{Done, Usage, Model, Trace, Past, Over, ReadFault, WriteFault, Memory}
use Rattle.mq_words.specs.declared.fault.UsageFault.{UsageFault}
use Rattle.mq_words.specs.declared.fault.UsageFault.TheVariants as usage

-- how the error lines of the program `mpsim` begin
abbrev pub mpsim : List ℕ
mpsim = codes "mpsim: "

-- the line of an error in a model, which begins with a program's name
abbrev pub model_line : List ℕ → ModelFault → List ℕ
model_line program model.TooLong = program ++ codes "model: longer than 65536 bytes" ++ 10 ∷ []
model_line program (model.BadByte l) = program ++ codes "model line " ++ decimal l ++ codes ": byte not allowed" ++ 10 ∷ []
model_line program (model.BadHead l) = program ++ codes "model line " ++ decimal l ++ codes ": expected model 1 or model 2" ++ 10 ∷ []
model_line program (model.BadLine l w) = program ++ codes "model line " ++ decimal l ++ codes ": word " ++ decimal w ++ codes " not allowed" ++ 10 ∷ []
model_line program (model.NameTwice l) = program ++ codes "model line " ++ decimal l ++ codes ": name declared twice" ++ 10 ∷ []
model_line program (model.TooMany l) = program ++ codes "model line " ++ decimal l ++ codes ": too many nodes or columns" ++ 10 ∷ []
model_line program (model.UnknownInput l i) = program ++ codes "model line " ++ decimal l ++ codes ": input " ++ decimal i ++ codes " unknown" ++ 10 ∷ []
model_line program (model.OutputTaken l i) = program ++ codes "model line " ++ decimal l ++ codes ": input " ++ decimal i ++ codes " already read" ++ 10 ∷ []
model_line program model.NoSource = program ++ codes "model: no source" ++ 10 ∷ []
model_line program (model.Cycle l node) = program ++ codes "model line " ++ decimal l ++ codes ": node on or behind a cycle" ++ 10 ∷ []
model_line program model.Memory = program ++ codes "out of memory" ++ 10 ∷ []

-- the line of an error in a trace, which begins with a program's name, with the name of the missing column
abbrev pub trace_line : List ℕ → List ℕ → TraceFault → List ℕ
trace_line program name trace.TooLong = program ++ codes "trace: longer than 134217728 bytes" ++ 10 ∷ []
trace_line program name (trace.BadHeader f) = program ++ codes "trace header: field " ++ decimal f ++ codes " not allowed" ++ 10 ∷ []
trace_line program name (trace.MissingColumn c) = program ++ codes "trace header: column " ++ name ++ codes " missing" ++ 10 ∷ []
trace_line program name trace.TooManyRows = program ++ codes "trace: more than 1048576 records" ++ 10 ∷ []
trace_line program name (trace.BadCount r) = program ++ codes "trace record " ++ decimal r ++ codes ": wrong number of fields" ++ 10 ∷ []
trace_line program name (trace.UnknownSource r) = program ++ codes "trace record " ++ decimal r ++ codes ": unknown source" ++ 10 ∷ []
trace_line program name (trace.BadNumber r f) = program ++ codes "trace record " ++ decimal r ++ codes ": field " ++ decimal f ++ codes " is not a number in range" ++ 10 ∷ []
trace_line program name trace.Memory = program ++ codes "out of memory" ++ 10 ∷ []

-- the line of a visit that departs after the bound, with the name of its node, and `back` at the end
abbrev pub past_line : List ℕ → List ℕ → PastFault → List ℕ → List ℕ
past_line program name f back = program ++ codes "node " ++ name ++ codes " position " ++ decimal f.position ++ codes " passes the bound at time " ++ decimal f.time ++ back ++ 10 ∷ []

-- the line of a node of this name that has too many visits, with `back` at the end
abbrev pub over_line : List ℕ → List ℕ → OverFault → List ℕ → List ℕ
over_line program name f back = program ++ codes "node " ++ name ++ codes " has " ++ decimal f.count ++ codes " visits" ++ back ++ 10 ∷ []

-- the two forms of a command
abbrev pub usage_text : List ℕ
usage_text = codes "usage: mpsim MODEL TRACE [--workers N] [--block N] [--jobs] [--report N] or mpsim --made N [--workers N] [--block N] [--jobs] [--report N]"

-- the line of an error in the arguments
abbrev pub usage_line : UsageFault → List ℕ
usage_line usage.Words = mpsim ++ usage_text ++ 10 ∷ []
usage_line usage.Form = mpsim ++ usage_text ++ 10 ∷ []
usage_line usage.Workers = mpsim ++ codes "--workers takes a whole number from 1 to 64" ++ 10 ∷ []
usage_line usage.Block = mpsim ++ codes "--block takes a whole number from 1 to 65536" ++ 10 ∷ []
usage_line usage.Made = mpsim ++ codes "--made takes a whole number from 0 to 18446744073709551615" ++ 10 ∷ []
usage_line usage.Report = mpsim ++ codes "--report takes 1 or 2" ++ 10 ∷ []

-- the line of an outcome, with the name that belongs in it
abbrev pub line_text : List ℕ → Outcome → List ℕ
line_text name Done = []
line_text name (Usage f) = usage_line f
line_text name (Model f) = model_line mpsim f
line_text name (Trace f) = trace_line mpsim name f
line_text name (Past f) = past_line mpsim name f []
line_text name (Over f) = over_line mpsim name f []
line_text name (ReadFault false) = mpsim ++ codes "cannot read the model" ++ 10 ∷ []
line_text name (ReadFault true) = mpsim ++ codes "cannot read the trace" ++ 10 ∷ []
line_text name WriteFault = mpsim ++ codes "cannot write the report" ++ 10 ∷ []
line_text name Memory = mpsim ++ codes "out of memory" ++ 10 ∷ []

-- the name of a node, if there is one
abbrev pub node_name : Option Node → List ℕ
node_name None = []
node_name (Some node) = node.name

-- the name of a column, if there is one
abbrev pub column_name : Option (List ℕ) → List ℕ
column_name None = []
column_name (Some name) = name

-- the name in the error line of a trace: that of the missing column
abbrev pub fault_name : Network → TraceFault → List ℕ
fault_name net trace.TooLong = []
fault_name net (trace.BadHeader f) = []
fault_name net (trace.MissingColumn c) = column_name (slice_get net.columns c)
fault_name net trace.TooManyRows = []
fault_name net (trace.BadCount r) = []
fault_name net (trace.UnknownSource r) = []
fault_name net (trace.BadNumber r f) = []
fault_name net trace.Memory = []

-- the name in the line of an outcome: that of the missing column, or of the node that passed the bound or has too many
-- visits
abbrev pub name_of : Network → Outcome → List ℕ
name_of net Done = []
name_of net (Usage f) = []
name_of net (Model f) = []
name_of net (Trace f) = fault_name net f
name_of net (Past f) = node_name (slice_get net.nodes f.node)
name_of net (Over f) = node_name (slice_get net.nodes f.node)
name_of net (ReadFault second) = []
name_of net WriteFault = []
name_of net Memory = []

-- Standard error gained a first part of a line, and the whole line unless its count of faults rose. That count never falls,
-- and doesn't rise if at least as many bytes are sure to be taken as the line has.
pub record PutsLine {S : Type 0} (taken : S → Option (List ℕ)) (sure faults : S → ℕ) (before after : S) (text : List ℕ) : Type 0 where
  pub part : TakesPrefix (taken before) (taken after) (sure before) (sure after) text
  pub whole : ¬ (Rose (faults before) (faults after)) → taken after ≡ append_known (taken before) text
  pub later : faults before ≤ faults after
  pub calm : length text ≤ sure before → faults after ≡ faults before
