use Rattle.std.proofs.Common.{◌≡◌, ◌+◌, ◌-◌, ◌++◌, [], ◌∷◌, ℕ, suc, ap, arith, subst, sym, ◌∙◌}
use Rattle.mq_scan.proofs.Spans.{carries-more}
use Rattle.mq_scan.specs.Folds.{carries_after, fold_to}
use Rattle.mq_redo.proofs.blocks.through_block.Goals as goal

pub advance-requires-clause-can : goal.advance-requires-clause-can
advance-requires-clause-can g c =
    let from = c.args.from in
    let begun = c.acts.invariant.begun in
    let index : from + (c.acts.at - from) ≡ c.acts.at = omega arith in
    subst (λ (k : ℕ). g.P.Step.can_act (g.P.Step.part c.args.step.now k) c.acts.carry) index
    (subst (λ (carry : g.row.P-Carry.Denot). g.P.Step.can_act (g.P.Step.part c.args.step.now (from + (c.acts.at - from))) carry) (sym c.acts.invariant.carry) (c.requires.acts (c.acts.at - from) (omega arith)))

pub acts-preserved : goal.acts-preserved
acts-preserved g c =
    let from = c.args.from in
    let n = c.acts.at - from in
    let part : ℕ → g.row.P-Summary.Denot = λ k. g.P.Step.part c.args.step.now (from + k) in
    let begun = c.acts.invariant.begun in
    let index : c.acts.at ≡ from + n = omega arith in
    let next : suc n ≡ c.acts.at + 1 - from = omega arith in
    let carry : c.advance.new.carry ≡ fold_to g.P.Step.acted c.args.carry part (suc n) =
    c.advance.ensures ∙ (λ i. g.P.Step.acted (g.P.Step.part c.args.step.now (index i)) (c.acts.invariant.carry i)) in
    record {
      begun = omega arith;
      within = omega arith;
      carry = carry ∙ ap (fold_to g.P.Step.acted c.args.carry part) next;
      after = c.in_ok-push.ensures.items
          ∙ ((λ i. c.acts.invariant.after i ++ (carry ∙ ap (fold_to g.P.Step.acted c.args.carry part) {x = suc n} {y = suc (0 + n)} (omega arith)) i ∷ [])
          ∙ (sym (carries-more g.P.Step.acted c.args.carry part 0 n) ∙ ap (carries_after g.P.Step.acted c.args.carry part 0) next));
    }

pub returns-clause-after : goal.returns-clause-after
returns-clause-after g c =
    let part : ℕ → g.row.P-Summary.Denot = λ k. g.P.Step.part c.args.step.now (c.args.from + k) in
    let within = c.acts.invariant.within in
    let last = c.acts-test.false in
    let all : c.acts.at - c.args.from ≡ c.args.to - c.args.from = omega arith in
    c.from_vec.ensures ∙ (c.acts.invariant.after ∙ ap (carries_after g.P.Step.acted c.args.carry part 0) all)

pub returns-clause-step : goal.returns-clause-step
returns-clause-step g c = c.tick.ensures
