-- For each answer of the definitions: how a call may end, how far it gets with the files, and what it writes. If the last row of
-- a table is ⊥, only the outcomes in the rows above are possible.
use Rattle.std.specs.Prelude.{◌≡◌, ◌≢◌, ◌⊎◌, ◌+◌, ◌<◌, ◌≤◌, ℕ, Bool, false, List, Option, Some, IfSome, Result, Ok, Err}
use Rattle.mq_core.specs.declared.model.Network.{Network}
use Rattle.mq_edits.specs.Edits.{edits_fault}
use Rattle.mq_edits.specs.declared.fault.EditFault.TheVariants as edits
use Rattle.mq_model.specs.Model.{model_fault}
use Rattle.mq_model.specs.declared.fault.ModelFault.TheVariants as model
use Rattle.mq_outside.specs.Reading.{Reading, is_unread}
use Rattle.mq_outside.specs.Reading.Reading.{Through, UpTo, FailedAt, Anywhere}
use Rattle.mq_outside.specs.Writing.{Writing}
use Rattle.mq_outside.specs.Writing.Writing.{Whole, Part, Nothing}
use Rattle.mq_trace.specs.Trace.{trace_fault}
use Rattle.mq_trace.specs.declared.fault.TraceFault.TheVariants as trace
use Rattle.mq_edit.specs.Answer.{Answer, answer_of}
use Rattle.mq_edit.specs.Answer.Answer.{Refused, Reported}
use Rattle.mq_edit.specs.Words.{refuses_words}
use Rattle.mq_edit.specs.declared.outcome.EditOutcome.{EditOutcome}
use Rattle.mq_edit.specs.declared.outcome.EditOutcome.TheVariants.{Done, Usage, Model, Trace, Edits, Over, Past, ReadFault, WriteFault, Memory}

-- the number of files that a call with this ending reads; memory may run out before each read, and after the last
abbrev pub reads_of : EditOutcome → ℕ
reads_of Usage = 0
reads_of (Model f) = 1
reads_of (Trace f) = 2
reads_of (ReadFault file) = file + 1
reads_of Done = 3
reads_of (Edits f) = 3
reads_of (Over edited f) = 3
reads_of (Past edited f) = 3
reads_of WriteFault = 3
reads_of Memory = 0

-- how far a call with this ending gets with the three names
abbrev pub reading_of : EditOutcome → Reading
reading_of Usage = Through
reading_of (Model f) = UpTo 1
reading_of (Trace f) = UpTo 2
reading_of (ReadFault file) = FailedAt (file + 1)
reading_of Done = Through
reading_of (Edits f) = Through
reading_of (Over edited f) = Through
reading_of (Past edited f) = Through
reading_of WriteFault = Through
reading_of Memory = Anywhere

-- how much of the report a call with this ending writes
abbrev pub writing_of : EditOutcome → Writing
writing_of Done = Whole
writing_of WriteFault = Part
writing_of Usage = Nothing
writing_of (Model f) = Nothing
writing_of (Trace f) = Nothing
writing_of (Edits f) = Nothing
writing_of (Over edited f) = Nothing
writing_of (Past edited f) = Nothing
writing_of (ReadFault file) = Nothing
writing_of Memory = Nothing

-- the last read of a stage of the call failed
abbrev pub stops_unread : {A : Type 0} → Result A EditOutcome → Bool
stops_unread (Ok x) = false
stops_unread (Err outcome) = is_unread (reading_of outcome)

-- a read of one of the first files failed, or memory ran out; nothing else is possible
abbrev pub Breaks : ℕ → EditOutcome → Type 0
Breaks files (ReadFault file) = file < files
Breaks files Memory = Unit {0}
Breaks _ _ = ⊥

-- the call ends with the answer, or before it with a device fault or for lack of memory
abbrev pub Ends : Answer → EditOutcome → Type 0
Ends (Refused refusal) outcome = (outcome ≡ refusal) ⊎ Breaks (reads_of refusal) outcome
Ends (Reported text) outcome = (outcome ≡ Done) ⊎ ((outcome ≡ WriteFault) ⊎ Breaks 3 outcome)

-- if there is a report, it is this text
abbrev pub IsText : List ℕ → Answer → Type 0
IsText text (Refused refusal) = Unit {0}
IsText text (Reported report) = text ≡ report

-- a text is the report of a call with these words, as far as the contents of the files are known
abbrev pub IsReportOf : (told : List ℕ → Option (List ℕ)) → List (List ℕ) → List ℕ → Type 0
IsReportOf told words text = refuses_words words ≡ false → IfSome (answer_of told words) (IsText text)

-- how the call may end at the model, if this is known of its contents: only by Model, Memory or a fault of its read
abbrev pub RefusesModel : Option (List ℕ) → EditOutcome → Type 0
RefusesModel told (Model f) = (f ≢ model.Memory) × IfSome told (λ bytes. model_fault bytes ≡ Some f)
RefusesModel told (ReadFault file) = file ≡ 0
RefusesModel told Memory = Unit {0}
RefusesModel _ _ = ⊥

-- how the call may end at the trace: only by Trace, Memory or a fault of its read
abbrev pub RefusesTrace : Network → Option (List ℕ) → EditOutcome → Type 0
RefusesTrace net told (Trace f) = (f ≢ trace.Memory) × IfSome told (λ bytes. trace_fault net bytes ≡ Some f)
RefusesTrace net told (ReadFault file) = file ≡ 1
RefusesTrace net told Memory = Unit {0}
RefusesTrace _ _ _ = ⊥

-- how the call may end at the edits of this many rows: only by Edits, Memory or a fault of their read
abbrev pub RefusesEdits : Network → ℕ → Option (List ℕ) → EditOutcome → Type 0
RefusesEdits net rows told (Edits f) = (f ≢ edits.Memory) × IfSome told (λ bytes. edits_fault net rows bytes ≡ Some f)
RefusesEdits net rows told (ReadFault file) = file ≡ 2
RefusesEdits net rows told Memory = Unit {0}
RefusesEdits _ _ _ _ = ⊥

-- an outcome after all files were accepted: none of Usage, Model, Trace, Edits and ReadFault is possible
abbrev pub IsOfRun : EditOutcome → Type 0
IsOfRun Done = Unit {0}
IsOfRun (Over edited f) = Unit {0}
IsOfRun (Past edited f) = Unit {0}
IsOfRun WriteFault = Unit {0}
IsOfRun Memory = Unit {0}
IsOfRun _ = ⊥

-- an outcome after the trace was accepted: none of Usage, Model and Trace is possible
abbrev pub IsBehindTrace : EditOutcome → Type 0
IsBehindTrace (Edits f) = f ≢ edits.Memory
IsBehindTrace (ReadFault file) = file ≡ 2
IsBehindTrace Done = Unit {0}
IsBehindTrace (Over edited f) = Unit {0}
IsBehindTrace (Past edited f) = Unit {0}
IsBehindTrace WriteFault = Unit {0}
IsBehindTrace Memory = Unit {0}
IsBehindTrace _ = ⊥

-- an outcome after the model was accepted: neither Usage nor Model is possible
abbrev pub IsBehindModel : EditOutcome → Type 0
IsBehindModel (Trace f) = f ≢ trace.Memory
IsBehindModel (Edits f) = f ≢ edits.Memory
IsBehindModel (ReadFault file) = (1 ≤ file) × (file < 3)
IsBehindModel Done = Unit {0}
IsBehindModel (Over edited f) = Unit {0}
IsBehindModel (Past edited f) = Unit {0}
IsBehindModel WriteFault = Unit {0}
IsBehindModel Memory = Unit {0}
IsBehindModel _ = ⊥
