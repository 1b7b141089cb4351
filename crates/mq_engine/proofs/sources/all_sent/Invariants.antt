use Rattle.std.proofs.Common.{ℕ, ◌≡◌, ◌+◌, ◌≤◌, length}
use Rattle.std.specs.List.{AllByRecursion}
use Rattle.std.specs.Vec.{vec_capacity}
use Rattle.mq_engine.specs.Counting.{IsToldAmong}
use Rattle.mq_engine.specs.Sources.{IsSourceArrived}
use Rattle.mq_engine.proofs.sources.all_sent.Given as goal

abbrev pub invariant-loop-one : goal.invariant-loop-one
invariant-loop-one l = record {
  len : length l.arrived.items + length l.sent.items ≡ length l.initial.arrived.items;
  left : AllByRecursion (IsSourceArrived l.arriving) l.arrived.items;
  made : (form : ℕ) → AllByRecursion (IsToldAmong l.arriving.plan.now l.arriving.rows.now form l.arriving.ready.now) l.sent.items;
  room : length l.initial.arrived.items ≤ vec_capacity l.sent;
}

abbrev pub decreases-loop-one : goal.decreases-loop-one
decreases-loop-one l = length l.arrived.items
