-- How a run may end for each answer of the definitions, how many files it has read, and what it has written. If the last row of a table is ⊥, the rows above it list all possible outcomes.
use Rattle.std.specs.Prelude.{◌≡◌, ◌≢◌, ℕ, Bool, true, false, List, [], Option, Some, None, IfSome, Result, Ok, Err}
use Rattle.std.specs.Io.KnownBytes.{append_known}
use Rattle.mq_outside.specs.Outside.{TakesPrefix}
use Rattle.mq_outside.specs.Reading.{Reading, is_unread}
use Rattle.mq_outside.specs.Reading.Reading.{Through, UpTo, FailedAt, Anywhere}
use Rattle.mq_outside.specs.Writing.{Writing}
use Rattle.mq_outside.specs.Writing.Writing.{Whole, Part, Nothing}
use Rattle.mq_core.specs.declared.model.Network.{Network}
use Rattle.mq_core.specs.Results.Refusal.{Over as OverRefusal, Past as PastRefusal}
use Rattle.mq_gen.specs.Made.{made_model, made_trace}
use Rattle.mq_model.specs.Model.{model_fault}
use Rattle.mq_model.specs.declared.fault.ModelFault.TheVariants as model
use Rattle.mq_trace.specs.Trace.{trace_fault}
use Rattle.mq_trace.specs.declared.fault.TraceFault.TheVariants as trace
use Rattle.mq_top.specs.Answer.{Answer, answer, wanted_by}
use Rattle.mq_top.specs.Answer.Answer.{ModelRefused, TraceRefused, Refused, Reported}
use Rattle.mq_words.specs.Words.{Makes, Names, refuses_words, usage_fault, words_left}
use Rattle.mq_words.specs.declared.fault.UsageFault.{UsageFault}
use Rattle.mq_outcome.specs.declared.outcome.Outcome.{Outcome}
use Rattle.mq_outcome.specs.declared.outcome.Outcome.TheVariants.{Done, Usage, Model, Trace, Past, Over, ReadFault, WriteFault, Memory}

-- what a sink had taken and has taken now, if it is known, and its sure bytes then and now
pub record Taken : Type 0 where
  pub before : Option (List ℕ)
  pub now : Option (List ℕ)
  pub sure_before : ℕ
  pub sure_now : ℕ

-- these values of a sink, by its own functions
abbrev pub takings : {S : Type 0} (taken : S → Option (List ℕ)) (sure : S → ℕ) (before now : S) → Taken
takings taken sure before now = record { before = taken before; now = taken now; sure_before = sure before; sure_now = sure now }

-- The run ends with the answer, or on the way to it with a fault of a device or out of memory. The output gained the whole report with Done, and a first part of it after a fault of the output.
-- Nothing else is possible: no Usage; no Model, Trace, Past or Over except the answer's; no Done or WriteFault if the answer is one of these; and no fault of the second read if the answer is
-- Model.
abbrev pub Ends : Answer → Outcome → Taken → Type 0
Ends (ModelRefused f) (Model g) t = f ≡ g
Ends (ModelRefused f) (ReadFault false) t = Unit {0}
Ends (ModelRefused f) Memory t = Unit {0}
Ends (TraceRefused f) (Trace g) t = f ≡ g
Ends (TraceRefused f) (ReadFault second) t = Unit {0}
Ends (TraceRefused f) Memory t = Unit {0}
Ends (Refused why) (Past f) t = why ≡ PastRefusal (record { node = f.node; position = f.position; time = f.time })
Ends (Refused why) (Over f) t = why ≡ OverRefusal f.node f.count
Ends (Refused why) (ReadFault second) t = Unit {0}
Ends (Refused why) Memory t = Unit {0}
Ends (Reported text) Done t = t.now ≡ append_known t.before text
Ends (Reported text) WriteFault t = TakesPrefix t.before t.now t.sure_before t.sure_now text
Ends (Reported text) (ReadFault second) t = Unit {0}
Ends (Reported text) Memory t = Unit {0}
Ends _ _ _ = ⊥

-- how many of the two names a run with this outcome has read
abbrev pub reading_of : Outcome → Reading
reading_of (Model f) = UpTo 1
reading_of (Trace f) = UpTo 2
reading_of (ReadFault false) = FailedAt 1
reading_of (ReadFault true) = FailedAt 2
reading_of Done = Through
reading_of (Usage f) = Through
reading_of (Past f) = Through
reading_of (Over f) = Through
reading_of WriteFault = Through
reading_of Memory = Anywhere

-- how much of the report it has written
abbrev pub writing_of : Outcome → Writing
writing_of Done = Whole
writing_of WriteFault = Part
writing_of (Usage f) = Nothing
writing_of (Model f) = Nothing
writing_of (Trace f) = Nothing
writing_of (Past f) = Nothing
writing_of (Over f) = Nothing
writing_of (ReadFault second) = Nothing
writing_of Memory = Nothing

-- whether the last read of a stage failed
abbrev pub stops_unread : {A : Type 0} → Result A Outcome → Bool
stops_unread (Ok x) = false
stops_unread (Err outcome) = is_unread (reading_of outcome)

-- these names, unless the arguments have an error
abbrev pub names_unless : Option UsageFault → List (List ℕ) → List (List ℕ)
names_unless None names = names
names_unless (Some fault) names = []

-- the names of the files that are read: the two that valid arguments name, or none if the arguments ask for a made input or are invalid
abbrev pub names_read : List (List ℕ) → List (List ℕ)
names_read words = names_unless (usage_fault words) (words_left words)

-- a report is this text
abbrev pub IsText : List ℕ → Answer → Type 0
IsText text (ModelRefused f) = Unit {0}
IsText text (TraceRefused f) = Unit {0}
IsText text (Refused why) = Unit {0}
IsText text (Reported report) = text ≡ report

-- a text is the report for these arguments, as far as the contents of the files are known
pub record IsReportOf (told : List ℕ → Option (List ℕ)) (words : List (List ℕ)) (text : List ℕ) : Type 0 where
  pub named : (m t model trace : List ℕ) → Names words m t → told m ≡ Some model → told t ≡ Some trace → IsText text (answer model trace (wanted_by words))
  pub made : (number : ℕ) → Makes words number → IsText text (answer (made_model number) (made_trace number) (wanted_by words))

-- an outcome of a made input, which is never refused and reads no file: Usage, Model, Trace, Past, Over and ReadFault are impossible
abbrev pub IsOfMade : Outcome → Type 0
IsOfMade Done = Unit {0}
IsOfMade WriteFault = Unit {0}
IsOfMade Memory = Unit {0}
IsOfMade _ = ⊥

-- how a run may end before the model is read: only with Usage or Memory, and memory runs out only if the arguments meet the rule
abbrev pub RefusesCall : List (List ℕ) → Outcome → Type 0
RefusesCall words (Usage f) = usage_fault words ≡ Some f
RefusesCall words Memory = refuses_words words ≡ false
RefusesCall _ _ = ⊥

-- how a run with valid arguments may end before the trace is read, given what is known of the model: only with Model, Memory or a fault of the first read
abbrev pub RefusesModel : Outcome → Option (List ℕ) → Type 0
RefusesModel (Model f) told = (f ≢ model.Memory) × IfSome told (λ bytes. model_fault bytes ≡ Some f)
RefusesModel (ReadFault false) told = Unit {0}
RefusesModel Memory told = Unit {0}
RefusesModel _ _ = ⊥

-- how it may end before the network runs, given what is known of the trace: only with Trace, Memory or a fault of the second read
abbrev pub RefusesTrace : Network → Outcome → Option (List ℕ) → Type 0
RefusesTrace net (Trace f) told = (f ≢ trace.Memory) × IfSome told (λ bytes. trace_fault net bytes ≡ Some f)
RefusesTrace net (ReadFault true) told = Unit {0}
RefusesTrace net Memory told = Unit {0}
RefusesTrace _ _ _ = ⊥

-- an outcome that comes once the model is valid: Usage, Model and a fault of the first read are impossible
abbrev pub IsLate : Outcome → Type 0
IsLate Done = Unit {0}
IsLate (Trace f) = f ≢ trace.Memory
IsLate (Past f) = Unit {0}
IsLate (Over f) = Unit {0}
IsLate (ReadFault true) = Unit {0}
IsLate WriteFault = Unit {0}
IsLate Memory = Unit {0}
IsLate _ = ⊥
