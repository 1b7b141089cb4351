-- The exit status of an outcome.
use Rattle.std.specs.Prelude.{ℕ}
use Rattle.mq_outcome.specs.declared.outcome.Outcome.{Outcome}
use Rattle.mq_outcome.specs.declared.outcome.Outcome.TheVariants.{Done, Usage, Model, Trace, Past, Over, ReadFault, WriteFault, Memory}

-- the exit status of the program
abbrev pub status_of : Outcome → ℕ
status_of Done = 0
status_of (Usage f) = 2
status_of (Model f) = 3
status_of (Trace f) = 4
status_of (Past f) = 5
status_of (Over f) = 9
status_of (ReadFault second) = 6
status_of WriteFault = 7
status_of Memory = 8
