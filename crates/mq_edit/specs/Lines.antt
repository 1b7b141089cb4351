-- The line that each outcome puts on the error output.
use Rattle.std.specs.Prelude.{ℕ, ◌+◌, Bool, true, false, List, [], ◌∷◌, ◌++◌, codes, decimal, slice_get}
use Rattle.mq_core.specs.declared.model.Network.{Network}
use Rattle.mq_outcome.specs.Lines.{fault_name, model_line, node_name, over_line, past_line, trace_line}
use Rattle.mq_edits.specs.declared.fault.EditFault.{EditFault}
use Rattle.mq_edits.specs.declared.fault.EditFault.TheVariants as edits
use Rattle.mq_edit.specs.declared.outcome.EditOutcome.{EditOutcome}
use Rattle.mq_edit.specs.declared.outcome.EditOutcome.TheVariants.{Done, Usage, Model, Trace, Edits, Over, Past, ReadFault, WriteFault, Memory}

-- how the lines of the program begin
abbrev pub mpedit : List ℕ
mpedit = codes "mpedit: "

-- the line of a fault in a line of the edits
abbrev pub not_allowed : ℕ → List ℕ
not_allowed line = mpedit ++ codes "edits line " ++ decimal line ++ codes ": not allowed" ++ 10 ∷ []

-- the line of a fault of the edits
abbrev pub edits_line : EditFault → List ℕ
edits_line edits.TooLong = mpedit ++ codes "edits: too long" ++ 10 ∷ []
edits_line (edits.BadLine line word) = not_allowed line
edits_line (edits.TooManyRows line) = not_allowed line
edits_line (edits.UnknownRow line) = not_allowed line
edits_line (edits.UnknownSource line) = not_allowed line
edits_line (edits.BadNumber line word) = not_allowed line
edits_line edits.Memory = mpedit ++ codes "out of memory" ++ 10 ∷ []

-- which run is refused
abbrev pub which_run : Bool → List ℕ
which_run true = codes " after the edits"
which_run false = codes " before the edits"

-- the line of an outcome, with the name that belongs in it
abbrev pub line_text : List ℕ → EditOutcome → List ℕ
line_text name Done = []
line_text name Usage = mpedit ++ codes "usage: mpedit MODEL TRACE EDITS" ++ 10 ∷ []
line_text name (Model f) = model_line mpedit f
line_text name (Trace f) = trace_line mpedit name f
line_text name (Edits f) = edits_line f
line_text name (Over edited f) = over_line mpedit name f (which_run edited)
line_text name (Past edited f) = past_line mpedit name f (which_run edited)
line_text name (ReadFault file) = mpedit ++ codes "cannot read file " ++ decimal (file + 1) ++ 10 ∷ []
line_text name WriteFault = mpedit ++ codes "cannot write the report" ++ 10 ∷ []
line_text name Memory = mpedit ++ codes "out of memory" ++ 10 ∷ []

-- the name in the line of an outcome: that of a missing column, or of the node that passed the bound or has too many visits
abbrev pub name_of : Network → EditOutcome → List ℕ
name_of net Done = []
name_of net Usage = []
name_of net (Model f) = []
name_of net (Trace f) = fault_name net f
name_of net (Edits f) = []
name_of net (Over edited f) = node_name (slice_get net.nodes f.node)
name_of net (Past edited f) = node_name (slice_get net.nodes f.node)
name_of net (ReadFault file) = []
name_of net WriteFault = []
name_of net Memory = []
