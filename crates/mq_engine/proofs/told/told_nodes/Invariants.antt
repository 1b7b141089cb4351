use Rattle.std.proofs.Common.{◌≡◌, ◌+◌, ◌≤◌, ℕ, List, length, map}
use Rattle.std.specs.List.{AllByRecursion}
use Rattle.std.specs.Vec.{vec_capacity}
use Rattle.mq_core.specs.declared.model.Plan.{Plan}
use Rattle.mq_core.specs.declared.model.Rows.{Rows}
use Rattle.mq_exits.specs.Results.{IsResultOf}
use Rattle.mq_exits.specs.Turns.{result_given}
use Rattle.mq_engine.specs.Counting.{AreTold, IsToldAmong}
use Rattle.mq_engine.proofs.told.told_nodes.Given as goal

-- those told so far, and those that are left
abbrev pub invariant-loop-one : goal.invariant-loop-one
invariant-loop-one l = record {
  len : length l.given.items + length l.told.items ≡ length l.initial.given.items;
  even : length l.counts.items ≡ length l.given.items;
  told : (plan : Plan) (rows : Rows) (form : ℕ) (ready : List ℕ) → plan.net.nodes ≡ l.nodes → AllByRecursion (IsResultOf plan rows ready) (map result_given l.initial.given.items) → AreTold plan rows form (map result_given l.initial.given.items) l.initial.counts.items →
      AllByRecursion (IsResultOf plan rows ready) (map result_given l.given.items) × AreTold plan rows form (map result_given l.given.items) l.counts.items × AllByRecursion (IsToldAmong plan rows form ready) l.told.items;
  room : length l.initial.given.items ≤ vec_capacity l.told;
}

abbrev pub decreases-loop-one : goal.decreases-loop-one
decreases-loop-one l = length l.given.items
