use Rattle.std.proofs.Common.{ℕ, ◌≡◌, ◌*◌, ◌<◌, List, ◌++◌, ◌∙◌, ap, arith, drop, le_refl, length, min, refl}
use Rattle.std.proofs.lemmas.Option.{slice_get_within}
use Rattle.mq_pass.specs.Passing.{IsRight, left_from}
use Rattle.mq_pass.proofs.Lefts.{part-at}
use Rattle.mq_chain.specs.Words.{value_of}
use Rattle.mq_core.specs.Recurrences.{lindley}
use Rattle.mq_pass.specs.Blocks.{carry_at}
use Rattle.mq_pass.proofs.Together.{block-next, blocks-all, number-kept, number-taken, right-some, applied-here, applied-is}
use Rattle.mq_pass.proofs.rest.together.Goals.{in-Some+in_ok-extend_from_slice, in_default+in_ok-extend_from_slice-2}
use Rattle.mq_pass.proofs.rest.together.Goals as goal

pub get-requires-in_default : goal.get-requires-in_default
get-requires-in_default c =
    let jobs = c.args.jobs.now in
    slice_get_within c.args.applied.now c.puts.next _
    (applied-here jobs.step.arrive.now jobs.step.demands.now jobs.blocks.block c.args.passed.now c.args.applied.now c.puts.b c.puts.next c.get.result.now c.requires.applied c.get.ensures c.in_default.is c.puts.invariant.numbers)

pub puts-preserved : goal.puts-preserved
puts-preserved c =
    let jobs = c.args.jobs.now in
    let whole = jobs.whole in
    let less = jobs.blocks.none_more in
    let count = c.len-b-end.ensures in
    let each = c.requires.each in
    let test = c.puts-test.true in
    let inside : c.puts.b < jobs.blocks.blocks = omega arith in
    let i = c.puts.invariant in
    let part = part-at (IsRight jobs.step.arrive.now jobs.step.demands.now jobs.blocks.block) _ _ c.puts.b c.get.result.now c.requires.right c.get.ensures inside in
    elim c.match-get.branch [
      | in-Some+in_ok-extend_from_slice w ↦ record {
        so_far = block-next jobs.step.arrive.now jobs.step.demands.now jobs.step.load.each jobs.blocks.block jobs.blocks.blocks c.puts.b c.puts.all.items c.match-get.all.items w.in-Some.departs _ jobs.blocks.some inside (omega arith)
            (right-some _ _ _ w.in-Some.is part.departs)
            (ap (λ v. v.items) w.all-is ∙ (w.in_ok-extend_from_slice.ensures.items ∙ ap (λ (l : List ℕ). c.puts.all.items ++ l) w.as_slice.ensures)) i.so_far;
        numbers = ap (λ (n : ℕ). drop n (left_from 0 c.args.passed.now)) w.next-is ∙ (number-kept c.args.passed.now c.puts.b c.get.result.now w.in-Some.departs _ c.puts.next c.get.ensures w.in-Some.is i.numbers);
        behind = let next = w.next-is in let behind = i.behind in omega arith;
      }
      | in_default+in_ok-extend_from_slice-2 w ↦ record {
        so_far = block-next jobs.step.arrive.now jobs.step.demands.now jobs.step.load.each jobs.blocks.block jobs.blocks.blocks c.puts.b c.puts.all.items c.match-get.all.items w.get-in_default.result.now _ jobs.blocks.some inside (omega arith)
            (applied-is jobs.step.arrive.now jobs.step.demands.now jobs.blocks.block c.args.passed.now c.args.applied.now c.puts.b c.puts.next c.get.result.now w.get-in_default.result.now c.requires.applied c.get.ensures w.in_default.is i.numbers w.get-in_default.ensures)
            (ap (λ v. v.items) w.all-is ∙ (w.in_ok-extend_from_slice-2.ensures.items ∙ ap (λ (l : List ℕ). c.puts.all.items ++ l) w.as_slice-in_default.ensures)) i.so_far;
        numbers = ap (λ (n : ℕ). drop n (left_from 0 c.args.passed.now)) w.next-is ∙ (number-taken c.args.passed.now c.puts.b c.get.result.now _ c.puts.next c.get.ensures w.in_default.is i.numbers);
        behind = let next = w.next-is in let behind = i.behind in omega arith;
      }
    ]

pub puts-init : goal.puts-init
puts-init c =
    let jobs = c.args.jobs.now in
    let arrive = jobs.step.arrive.now in
    let demands = jobs.step.demands.now in
    let none : min (0 * jobs.blocks.block) (length arrive) ≡ 0 = omega arith in
    record {
      so_far = λ k. c.in_ok-all.ensures.items k ++ lindley (value_of (carry_at arrive demands (none k))) (drop (none k) arrive) (drop (none k) demands);
      numbers = refl;
      behind = le_refl 0;
    }

pub returns : goal.returns
returns c =
    let jobs = c.args.jobs.now in
    let whole = jobs.whole in
    let all = jobs.blocks.all in
    let count = c.len-b-end.ensures in
    let each = c.requires.each in
    let most = c.puts.auto.b-end in
    let least = c.puts-test.false in
    c.from_vec.ensures ∙ blocks-all jobs.step.arrive.now jobs.step.demands.now jobs.step.load.each jobs.blocks.block jobs.blocks.blocks c.puts.b c.puts.all.items _ (omega arith) (omega arith) c.puts.invariant.so_far
