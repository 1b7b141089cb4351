-- How a sweep may end for each answer, and what it leaves. If the last row of a table is ⊥, the rows above it list all possible outcomes.
use Rattle.std.specs.Prelude.{◌≡◌, ◌≤◌, ◌<◌, ◌+◌, ◌-◌, ℕ, true, false, List, [], ◌∷◌, ◌++◌, length, codes, decimal, Option, Some, None, IfSome, Result, Ok, Err, slice_index_or}
use Rattle.std.specs.Io.KnownBytes.{append_known}
use Rattle.mq_outside.specs.Outside.{TakesPrefix}
use Rattle.mq_outside.specs.Reading.{Reading}
use Rattle.mq_outside.specs.Reading.Reading.{Through, UpTo, FailedAt, Anywhere}
use Rattle.mq_outside.specs.Writing.{Writing}
use Rattle.mq_outside.specs.Writing.Writing.{Whole, Part, Nothing}
use Rattle.mq_top.specs.Ends.{Taken}
use Rattle.mq_sweep.specs.Sweep.{AreFiles, SweepAnswer, limit_of, sweep_answer, told_of_word}
use Rattle.mq_sweep.specs.Sweep.SweepAnswer.{LongFile, Swept}
use Rattle.mq_sweep.specs.declared.outcome.SweepOutcome.{SweepOutcome}
use Rattle.mq_sweep.specs.declared.outcome.SweepOutcome.TheVariants.{Done, Refused, Usage, TooLong, ReadFault, WriteFault, Memory}

-- The sweep ends with the answer, or on the way to it with a fault of a device or out of memory. The output gained the whole text with Done
-- and Refused, and a first part of it after a fault of the output. Nothing else is possible: no Usage; no TooLong except the answer's; no
-- Done, Refused or WriteFault if a file is too long; no Refused if each status is 0; and no Done if one isn't. The rows that don't look at
-- `done` come before those that do, so that they hold for both values.
abbrev pub SweepEnds : SweepAnswer → SweepOutcome → Taken → Type 0
SweepEnds (LongFile word) (TooLong found) t = found ≡ word
SweepEnds (LongFile word) (ReadFault failed) t = failed ≤ word
SweepEnds (LongFile word) Memory t = Unit {0}
SweepEnds (Swept text done) WriteFault t = TakesPrefix t.before t.now t.sure_before t.sure_now text
SweepEnds (Swept text done) (ReadFault failed) t = Unit {0}
SweepEnds (Swept text done) Memory t = Unit {0}
SweepEnds (Swept text true) Done t = t.now ≡ append_known t.before text
SweepEnds (Swept text false) Refused t = t.now ≡ append_known t.before text
SweepEnds _ _ _ = ⊥

-- how many of its files a sweep with this outcome has read
abbrev pub reading_of : SweepOutcome → Reading
reading_of (TooLong word) = UpTo word
reading_of (ReadFault word) = FailedAt word
reading_of Done = Through
reading_of Refused = Through
reading_of Usage = Through
reading_of WriteFault = Through
reading_of Memory = Anywhere

-- how many files a stage of it has read
abbrev pub stage_reading : {A : Type 0} → Result A SweepOutcome → Reading
stage_reading (Ok x) = Through
stage_reading (Err outcome) = reading_of outcome

-- how much of its text it has written
abbrev pub writing_of : SweepOutcome → Writing
writing_of Done = Whole
writing_of Refused = Whole
writing_of WriteFault = Part
writing_of Usage = Nothing
writing_of (TooLong word) = Nothing
writing_of (ReadFault word) = Nothing
writing_of Memory = Nothing

-- the text of a sweep is this
abbrev pub IsText : List ℕ → SweepAnswer → Type 0
IsText text (LongFile word) = Unit {0}
IsText text (Swept all done) = text ≡ all

-- a text is that of a sweep, as far as the contents of its files are known
abbrev pub IsSweepOf : List (Option (List ℕ)) → List ℕ → Type 0
IsSweepOf told text = (contents : List (List ℕ)) → AreFiles told contents → IsText text (sweep_answer contents)

-- the known files of the first `count` arguments have no more bytes than their limits
abbrev pub AreShort : ℕ → List (Option (List ℕ)) → Type 0
AreShort count told = (i : ℕ) (bytes : List ℕ) → i < count → slice_index_or told i None ≡ Some bytes → length bytes ≤ limit_of (i + 1)

-- what was read for the first `count` arguments is what is known of their files
abbrev pub AreRead : ℕ → List (Option (List ℕ)) → List (List ℕ) → Type 0
AreRead count told files = (i : ℕ) (bytes : List ℕ) → i < count → slice_index_or told i None ≡ Some bytes → slice_index_or files i [] ≡ bytes

-- the file of an argument is known to be longer than its limit
abbrev pub IsLong : ℕ → Option (List ℕ) → Type 0
IsLong word told = IfSome told (λ bytes. limit_of word < length bytes)

-- how the read of one file may fail: only with TooLong, ReadFault or Memory
abbrev pub RefusesRead : ℕ → Option (List ℕ) → SweepOutcome → Type 0
RefusesRead word told (TooLong found) = (found ≡ word) × IsLong word told
RefusesRead word told (ReadFault failed) = failed ≡ word
RefusesRead word told Memory = Unit {0}
RefusesRead _ _ _ = ⊥

-- the reading came to this argument, of `words` arguments: the known files of those before it aren't too long
pub record ReadsUpTo (words word : ℕ) (told : List (Option (List ℕ))) : Type 0 where
  pub some : 1 ≤ word
  pub most : word ≤ words
  pub short : AreShort (word - 1) told

-- how the reading of the files of `words` arguments may fail: only with TooLong, ReadFault or Memory
abbrev pub RefusesReading : ℕ → List (Option (List ℕ)) → SweepOutcome → Type 0
RefusesReading words told (TooLong word) = ReadsUpTo words word told × IsLong word (told_of_word told word)
RefusesReading words told (ReadFault word) = ReadsUpTo words word told
RefusesReading words told Memory = Unit {0}
RefusesReading _ _ _ = ⊥

-- the sweep ends at this argument at the latest, before any run: Done, Refused, Usage and WriteFault are impossible
abbrev pub StopsBy : ℕ → SweepOutcome → Type 0
StopsBy word (TooLong found) = found ≤ word
StopsBy word (ReadFault failed) = failed ≤ word
StopsBy word Memory = Unit {0}
StopsBy _ _ = ⊥

-- the exit status of the program
abbrev pub sweep_status : SweepOutcome → ℕ
sweep_status Done = 0
sweep_status Refused = 11
sweep_status Usage = 2
sweep_status (TooLong word) = 3
sweep_status (ReadFault word) = 6
sweep_status WriteFault = 7
sweep_status Memory = 8

-- the line that an outcome writes to standard error
abbrev pub sweep_line : SweepOutcome → List ℕ
sweep_line Done = []
sweep_line Refused = []
sweep_line Usage = codes "mpsweep: usage: mpsweep TRACE MODEL.." ++ 10 ∷ []
sweep_line (TooLong word) = codes "mpsweep: file " ++ decimal word ++ codes " is too long" ++ 10 ∷ []
sweep_line (ReadFault word) = codes "mpsweep: cannot read file " ++ decimal word ++ 10 ∷ []
sweep_line WriteFault = codes "mpsweep: cannot write the reports" ++ 10 ∷ []
sweep_line Memory = codes "mpsweep: out of memory" ++ 10 ∷ []

-- an outcome that comes once all files are read: Usage, TooLong and ReadFault are impossible
abbrev pub IsOfRun : SweepOutcome → Type 0
IsOfRun Done = Unit {0}
IsOfRun Refused = Unit {0}
IsOfRun WriteFault = Unit {0}
IsOfRun Memory = Unit {0}
IsOfRun _ = ⊥
