-- What a node let out once it has nothing to finish.
use Rattle.std.proofs.Common.{List, [], true, ℕ, ◌≡◌}
use Rattle.mq_core.specs.Local.{Local}
use Rattle.mq_core.specs.Machine.{Station, Visit}
use Rattle.mq_core.specs.SequenceLaws.{sends_once}
use Rattle.mq_core.specs.Served.{flow_of, in_emission_order}
use Rattle.mq_core.specs.declared.model.Kind.{Kind}
use Rattle.mq_core.specs.declared.model.Rows.{Rows}
use Rattle.mq_core.proofs.Counting.SequenceNumbers.{Numbered}
use Rattle.mq_core.proofs.EachKind.Facts.{kind_fact}
use Rattle.mq_core.proofs.EachKind.LawTable.{laws_of, recurrence_of}

-- a node with nothing to finish let out the flow of its kind
pub kind-flow : (rows : Rows) (ports : ℕ) (kind : Kind) (v : ℕ) (s : Station Local) (now : ℕ) → kind_fact rows ports kind v s [] now → s.emitted ≡ in_emission_order kind (flow_of rows ports kind s.visits)
kind-flow rows ports kind v s now h = (laws_of rows ports kind).flow v s now h

-- where each visit leaves once, the flow has one emission a visit, by position
pub flow-numbered : (rows : Rows) (ports : ℕ) (kind : Kind) → sends_once kind ≡ true → (visits : List Visit) → Numbered 0 (flow_of rows ports kind visits) visits
flow-numbered rows ports kind once = (recurrence_of rows ports kind once).numbered
