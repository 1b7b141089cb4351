use Rattle.std.proofs.Common.{All, List, ap, arith, length, map, min, subst, sym, ◌++◌, ◌∙◌, ◌≡◌, ◌*◌}
use Rattle.mq_maxplus.specs.declared.mp.Mp.TheVariants.{Void}
use Rattle.mq_pass.specs.Blocks.{IsKnown, carry_at}
use Rattle.mq_pass.specs.Passing.{IsRight, IsLeft, left_at, left_from}
use Rattle.mq_pass.specs.declared.left.Left.{Left}
use Rattle.mq_pass.proofs.Lefts.{numbers-all, numbers-next, lefts-next, carry-here, carry-next, carry-can, part-at, item-at}
use Rattle.mq_pass.proofs.left.left_of.Goals as goal

pub carry_after-carry-requires : goal.carry_after-carry-requires
carry_after-carry-requires c =
    let jobs = c.args.jobs.now in
    let whole = jobs.whole in
    let less = jobs.blocks.none_more in
    let part = part-at (IsRight jobs.step.arrive.now jobs.step.demands.now jobs.blocks.block) _ _ c.folds.b c.get-part.result.now c.requires.right c.get-part.ensures c.folds-test.true in
    carry-can jobs.step.arrive.now jobs.step.demands.now jobs.step.load c.folds.b jobs.blocks.block jobs.blocks.blocks _ c.folds.carry jobs.blocks.some c.folds-test.true (omega arith) c.folds.invariant.carry part.sum

pub folds-preserved : goal.folds-preserved
folds-preserved c =
    let jobs = c.args.jobs.now in
    let whole = jobs.whole in
    let less = jobs.blocks.none_more in
    let i = c.folds.invariant in
    let part = part-at (IsRight jobs.step.arrive.now jobs.step.demands.now jobs.blocks.block) _ _ c.folds.b c.get-part.result.now c.requires.right c.get-part.ensures c.folds-test.true in
    let known = item-at (IsKnown jobs.step.arrive.now jobs.step.demands.now jobs.blocks.block) _ _ c.folds.b c.get.result.now Void c.requires.known c.get.ensures c.folds-test.true in
    let here = carry-here jobs.step.arrive.now jobs.step.demands.now c.folds.b jobs.blocks.block jobs.blocks.blocks c.folds.carry c.folds-test.true (omega arith) i.carry in
    record {
      numbers = numbers-next c.folds.left.items c.note.new.left.items c.args.passed.now _ c.folds.b c.folds.carry c.get-part.result.now c.get-part.ensures c.in_ok-note.ensures i.numbers;
      left = lefts-next (IsLeft jobs.step.arrive.now jobs.step.demands.now jobs.blocks.block jobs.blocks.blocks) c.folds.left.items c.note.new.left.items (left_at c.folds.b c.folds.carry) c.get-part.result.now.departs c.in_ok-note.ensures i.left (record { inside = c.folds-test.true; before = here });
      carry = carry-next jobs.step.arrive.now jobs.step.demands.now c.folds.b jobs.blocks.block jobs.blocks.blocks _ c.get.result.now c.folds.carry c.carry_after-carry.result jobs.blocks.some c.folds-test.true (omega arith) i.carry part.sum known c.carry_after-carry.ensures;
    }

pub folds-init : goal.folds-init
folds-init c =
    let jobs = c.args.jobs.now in
    let none : 0 ≡ min (0 * jobs.blocks.block) (length jobs.step.arrive.now) = omega arith in
    record {
      numbers = ap (λ (l : List Left). map (λ (q : Left). q.block) l ++ left_from 0 c.args.passed.now) c.new-left.ensures.items;
      left = λ k d l. let none = ap length c.new-left.ensures.items in absurd (omega arith);
      carry = ap (carry_at jobs.step.arrive.now jobs.step.demands.now) none;
    }

pub returns-clause-numbers : goal.returns-clause-numbers
returns-clause-numbers c =
    let each = c.requires.each in
    let least = c.folds-test.false in
    ap (map (λ (q : Left). q.block)) c.from_vec.ensures ∙ numbers-all (map (λ (q : Left). q.block) c.folds.left.items) (left_from 0 c.args.passed.now) c.args.passed.now c.folds.b (omega arith) c.folds.invariant.numbers

pub returns-clause-left : goal.returns-clause-left
returns-clause-left c =
    let jobs = c.args.jobs.now in
    subst (All (IsLeft jobs.step.arrive.now jobs.step.demands.now jobs.blocks.block jobs.blocks.blocks)) (sym c.from_vec.ensures) c.folds.invariant.left
