use Rattle.std.proofs.Common.{◌≡◌, ℕ, ◌*◌, length, min}
use Rattle.mq_scan.specs.Folds.{fold_to, AreBefore, AreSummaries}
use Rattle.mq_scan.proofs.passes.carries.Given as goal

abbrev pub invariant-moves : goal.invariant-moves
invariant-moves g l =
    (length l.before.items ≡ l.b)
    × ((block : ℕ) → AreSummaries g.P.Step.joined (g.P.Step.part l.step) (g.P.Step.size l.step) block l.sums
    → AreBefore g.P.Step.acted (g.P.Step.start l.step) (g.P.Step.part l.step) block l.before.items × (l.carry ≡ fold_to g.P.Step.acted (g.P.Step.start l.step) (g.P.Step.part l.step) (min (l.b * block) (g.P.Step.size l.step))))
