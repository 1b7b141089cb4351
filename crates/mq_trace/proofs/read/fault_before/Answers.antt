use Rattle.std.proofs.Common.{◌≡◌, ◌∙◌, ◌<◌, ◌≤◌, List, ℕ, Some, true, false, le-ltb, length, lt-ltb, refl, sym}
use Rattle.std.specs.Prelude.{◌==◌}
use Rattle.std.specs.List.{starts_with}
use Rattle.mq_core.specs.declared.model.Network.{Network}
use Rattle.mq_trace.specs.Trace.{trace_fault, two_marks}
use Rattle.mq_trace.specs.declared.fault.TraceFault.TheVariants.{BadHeader, TooLong}
use Rattle.mq_trace.proofs.RowFacts.{by_records}
use Rattle.mq_trace.proofs.read.fault_before.Goals as goal

-- a text of too many bytes
too_long : (net : Network) (text : List ℕ) → 134217728 < length text → trace_fault net text ≡ Some TooLong
too_long net text many = rw (lt-ltb 134217728 (length text) many) refl

-- one with two marks
marked_twice : (net : Network) (text : List ℕ) → length text ≤ 134217728 → starts_with (λ a b. a == b) text two_marks ≡ true → trace_fault net text ≡ Some (BadHeader 1)
marked_twice net text few marks = rw (le-ltb 134217728 (length text) few, marks) refl

pub returns-then-text-gt134217728-clause-some : goal.returns-then-text-gt134217728-clause-some
returns-then-text-gt134217728-clause-some c = λ net. too_long net c.args.text.now c.if-text-gt134217728.true

pub returns-then-starts_with-clause-some : goal.returns-then-starts_with-clause-some
returns-then-starts_with-clause-some c = λ net. marked_twice net c.args.text.now c.if-text-gt134217728.false (sym c.starts_with.ensures.value ∙ c.if-starts_with.true)

pub returns-clause-none : goal.returns-clause-none
returns-clause-none c = λ net. by_records net c.args.text.now c.if-text-gt134217728.false (sym c.starts_with.ensures.value ∙ c.if-starts_with.false)
