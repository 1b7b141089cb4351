-- The status of an outcome.
use Rattle.std.specs.Prelude.{ℕ}
use Rattle.mq_edit.specs.declared.outcome.EditOutcome.{EditOutcome}
use Rattle.mq_edit.specs.declared.outcome.EditOutcome.TheVariants.{Done, Usage, Model, Trace, Edits, Over, Past, ReadFault, WriteFault, Memory}

-- the status with which the program ends
abbrev pub status_of : EditOutcome → ℕ
status_of Done = 0
status_of Usage = 2
status_of (Model f) = 3
status_of (Trace f) = 4
status_of (Edits f) = 10
status_of (Over edited f) = 9
status_of (Past edited f) = 5
status_of (ReadFault file) = 6
status_of WriteFault = 7
status_of Memory = 8
