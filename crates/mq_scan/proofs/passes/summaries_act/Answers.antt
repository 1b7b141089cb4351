use Rattle.std.proofs.Common.{◌≡◌, ◌+◌, ◌∙◌, ℕ, suc, ap, arith, subst, sym}
use Rattle.mq_scan.specs.Folds.{fold_to, MayTurn}
use Rattle.mq_scan.proofs.Spans.{turns}
use Rattle.mq_scan.proofs.passes.summaries_act.Goals as goal

pub returns : goal.returns
returns g c carry from n le may =
    let s = c.args.step.now in
    let law = g.met.P.Step in
    let part = g.P.Step.part s in
    let count : n + 1 ≡ suc n = omega arith in
    turns g.P.Step.joined g.P.Step.acted g.P.Step.can_join g.P.Step.can_act (g.P.Step.start s) part (g.P.Step.size s) (law.spans_join s) (law.spans_act s) law.acts carry from n le
    (subst (λ (m : ℕ). MayTurn g.P.Step.joined g.P.Step.acted g.P.Step.can_act part from m carry) count may)
    ∙ ap (fold_to g.P.Step.acted carry (λ k. part (from + k))) (sym count)
