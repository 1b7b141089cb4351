use Rattle.std.proofs.Common.{◌≡◌, ◌+◌, ◌-◌, ◌++◌, All, ℕ, List, [], ◌∷◌, length, length-append, map, ap, arith, subst, sym, ◌∙◌}
use Rattle.mq_scan.specs.Folds.{carries_after, fold_to}
use Rattle.mq_scan.proofs.Spans.{times-ranges-next}
use Rattle.mq_scan.proofs.lemmas.Blocks.{block-range, end_of}
use Rattle.mq_redo.specs.Doing.{AreBehind, AreDone}
use Rattle.mq_redo.proofs.Doing.{behind-more, block-some, carries-many, carries-on, fold-on, kept-few, last-of, reads-all}
use Rattle.mq_redo.proofs.blocks.redone.Goals as goal

pub overflow_cast-first : goal.overflow_cast-first
overflow_cast-first g c = let few = kept-few c.args.blocks.now (length c.args.kept.carries.items) c.requires.inside in omega arith

pub through_block-requires-clause-acts : goal.through_block-requires-clause-acts
through_block-requires-clause-acts g c = λ n l.
    let step = c.args.step.now in
    let from = c.range-from.result.0 in
    let to = c.range-from.result.1 in
    let range = block-range c.args.blocks.now c.parts.b from to c.parts-test.true c.range-from.ensures.0 c.range-from.ensures.1 in
    let begins = range.0 in
    let ends = range.2 in
    let all = c.requires.all in
    let carry = c.parts.invariant.carry ∙ ap (fold_to g.P.Step.acted c.args.before (g.P.Step.part step)) (sym begins) in
    subst (λ (carry : g.row.P-Carry.Denot). g.P.Step.can_act (g.P.Step.part step (from + n)) carry) (sym (fold-on g.P.Step.acted c.args.before (g.P.Step.part step) from c.parts.carry carry n)) (c.requires.acts (from + n) (omega arith))

pub overflow_sub-to : goal.overflow_sub-to
overflow_sub-to g c = let some = block-some c.args.blocks.now c.parts.b c.range-from.result.0 c.range-from.result.1 c.parts-test.true c.range-from.ensures.0 c.range-from.ensures.1 in omega arith

pub overflow_sub-to-in-parts : goal.overflow_sub-to-in-parts
overflow_sub-to-in-parts g c = let some = block-some c.args.blocks.now c.parts.b c.range-from.result.0 c.range-from.result.1 c.parts-test.true c.range-from.ensures.0 c.range-from.ensures.1 in omega arith

pub through_block-requires-clause-order : goal.through_block-requires-clause-order
through_block-requires-clause-order g c = let some = block-some c.args.blocks.now c.parts.b c.range-from.result.0 c.range-from.result.1 c.parts-test.true c.range-from.ensures.0 c.range-from.ensures.1 in omega arith

pub push_read-requires : goal.push_read-requires
push_read-requires g c =
    let step = c.args.step.now in
    let from = c.range-from.result.0 in
    let to = c.range-from.result.1 in
    let range = block-range c.args.blocks.now c.parts.b from to c.parts-test.true c.range-from.ensures.0 c.range-from.ensures.1 in
    let begins = range.0 in
    let order = range.1 in
    let ends = range.2 in
    let all = c.requires.all in
    let carry = c.parts.invariant.carry ∙ ap (fold_to g.P.Step.acted c.args.before (g.P.Step.part step)) (sym begins) in
    subst (All (g.P.Timed.can_time step)) (sym (c.in-Ok.ensures.after ∙ carries-on g.P.Step.acted c.args.before (g.P.Step.part step) from c.parts.carry carry (to - from)))
    (reads-all g.P.Step.acted c.args.before (g.P.Step.part step) (g.P.Timed.can_time step) from (to - from) (λ k l. c.requires.reads (from + k + 1) (omega arith)))

pub get-carry-requires : goal.get-carry-requires
get-carry-requires g c =
    let step = c.args.step.now in
    let from = c.range-from.result.0 in
    let to = c.range-from.result.1 in
    let some = block-some c.args.blocks.now c.parts.b from to c.parts-test.true c.range-from.ensures.0 c.range-from.ensures.1 in
    let many : length c.in-Ok.after ≡ to - from = ap length c.in-Ok.ensures.after ∙ carries-many g.P.Step.acted c.parts.carry (λ k. g.P.Step.part step (from + k)) 0 (to - from) in
    omega arith

pub parts-preserved : goal.parts-preserved
parts-preserved g c =
    let step = c.args.step.now in
    let blocks = c.args.blocks.now in
    let before = c.args.before in
    let acted = g.P.Step.acted in
    let part = g.P.Step.part step in
    let from = c.range-from.result.0 in
    let to = c.range-from.result.1 in
    let ends : to ≡ end_of blocks (c.parts.b + 1) = c.range-from.ensures.1 in
    let range = block-range blocks c.parts.b from to c.parts-test.true c.range-from.ensures.0 c.range-from.ensures.1 in
    let so_far = c.parts.invariant in
    let start = so_far.carry ∙ ap (fold_to acted before part) (sym range.0) in
    let after = c.in-Ok.ensures.after ∙ carries-on acted before part from c.parts.carry start (to - from) in
    let carry : c.get-carry.result.now ≡ fold_to acted before part (end_of blocks (c.parts.b + 1)) =
    last-of acted before part from to c.in-Ok.after c.get-carry.result.now (block-some blocks c.parts.b from to c.parts-test.true c.range-from.ensures.0 c.range-from.ensures.1) after c.get-carry.ensures ∙ ap (fold_to acted before part) ends in
    let pushed = c.in-Ok-push.ensures.items in
    let begun = so_far.begun in
    let spent = so_far.spent in
    let rises = so_far.steps in
    let step_is = c.through_block.ensures.step in
    record {
      begun = omega arith;
      within = (let l = c.parts-test.true in omega arith);
      carry = carry;
      done = record {
        count_is = ap length pushed ∙ (length-append c.parts.carries.items (c.get-carry.result.now ∷ []) ∙ (let n = so_far.done.count_is in omega arith));
        times_are = times-ranges-next acted before part (g.P.Timed.time_of step) (end_of blocks c.parts.b) from to c.parts.times.items c.push_read.new.times.items (sym range.0) range.1 so_far.done.times_are (c.in-Ok-push_read.ensures ∙ ap (λ (cs : List g.row.P-Carry.Denot). c.parts.times.items ++ map (g.P.Timed.time_of step) cs) after) ∙ ap (λ (k : ℕ). map (g.P.Timed.time_of step) (carries_after acted before part 0 k)) ends;
        behind = subst (λ (z : List g.row.P-Carry.Denot). AreBehind acted before part blocks.block blocks.n z) (sym pushed)
            (behind-more acted before part blocks.block blocks.n c.parts.carries.items c.parts.b c.get-carry.result.now so_far.done.count_is so_far.done.behind carry);
      };
      steps = omega arith;
      spent = omega arith;
    }

pub returns-clause-done : goal.returns-clause-done
returns-clause-done g c =
    let step = c.args.step.now in
    let within = c.parts.invariant.within in
    let all : c.parts.b ≡ c.args.blocks.now.blocks = omega arith in
    subst (λ (b : ℕ). AreDone (g.P.Timed.time_of step) g.P.Step.acted c.args.before (g.P.Step.part step) c.args.blocks.now b c.parts.times.items c.parts.carries.items) all c.parts.invariant.done

pub returns-clause-spent : goal.returns-clause-spent
returns-clause-spent g c =
    let within = c.parts.invariant.within in
    let spent = c.parts.invariant.spent in
    omega arith
