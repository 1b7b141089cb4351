use Rattle.std.proofs.Common.{◌≡◌, ◌*◌, ◌≤◌, ℕ, List, length, ap, arith, subst, sym}
use Rattle.mq_redo.specs.Doing.{AreDone}
use Rattle.mq_redo.proofs.Doing.{none-done}
use Rattle.mq_redo.proofs.blocks.redone_last.Goals as goal

pub redone-requires-clause-inside : goal.redone-requires-clause-inside
redone-requires-clause-inside g c = let none : length c.in-Ok.carries.items ≡ 0 = ap length c.in-Ok.ensures.items in subst (λ (n : ℕ). n * c.args.blocks.now.block ≤ c.args.blocks.now.n) (sym none) (omega arith)

pub redone-requires-clause-kept : goal.redone-requires-clause-kept
redone-requires-clause-kept g c =
    let step = c.args.step.now in
    subst (λ (z : List ℕ × List g.row.P-Carry.Denot). AreDone (g.P.Timed.time_of step) g.P.Step.acted c.args.before (g.P.Step.part step) c.args.blocks.now (length z.1) z.0 z.1) (λ i. (sym c.in_ok-times.ensures.items i, sym c.in-Ok.ensures.items i))
    (none-done (g.P.Timed.time_of step) g.P.Step.acted c.args.before (g.P.Step.part step) c.args.blocks.now)
