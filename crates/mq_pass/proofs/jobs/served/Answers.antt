use Rattle.std.proofs.Common.{ap, min, subst, sym, ℕ, ◌≡◌, ◌+◌, ◌-◌, ◌*◌, ◌^◌, ◌++◌, ◌∙◌, arith}
use Rattle.std.specs.Prelude.{slice_range}
use Rattle.mq_chain.specs.Words.{value_of}
use Rattle.mq_core.specs.Recurrences.{lindley}
use Rattle.mq_maxplus.specs.Within.{IsWithin}
use Rattle.mq_maxplus.specs.declared.affine.Affine.{Affine}
use Rattle.mq_maxplus.specs.Maxplus.{affine_act}
use Rattle.mq_pass.proofs.Serving.{serve-all, serve-next, serve-early}
use Rattle.mq_pass.proofs.jobs.served.Goals as goal

pub serves-preserved : goal.serves-preserved
serves-preserved c =
    let jobs = c.args.jobs.now in
    let each = jobs.step.load.each in
    let room = c.push_reserved.ensures.capacity in
    let len = c.push_reserved.ensures.len in
    let i = c.serves.invariant in
    let whole = jobs.whole in
    let to = c.range-from.ensures.1 in
    let act = sym c.in-At.is ∙ c.act-carry.ensures ∙ ap (λ (s : Affine). affine_act s c.serves.carry) c.one.ensures in
    record {
      so_far = serve-next jobs.step.arrive.now jobs.step.demands.now _ _ _ c.serves.at _ c.serves.carry c.in-At.time (omega arith) (omega arith) each act c.push_reserved.ensures.items i.so_far;
      len = omega arith;
      room = omega arith;
      early = let early = serve-early jobs.step.arrive.now jobs.step.demands.now c.serves.at _ c.serves.carry c.in-At.time jobs.step.load (omega arith) (omega arith) i.early act in omega arith;
    }

pub returns : goal.returns
returns c =
    let jobs = c.args.jobs.now in
    c.from_vec.ensures ∙ serve-all jobs.step.arrive.now jobs.step.demands.now c.serves.departs.items _ c.serves.at c.range-from.result.1 _ c.serves-test.false c.serves.invariant.so_far

pub serves-init : goal.serves-init
serves-init c =
    let jobs = c.args.jobs.now in
    let from = c.range-from.result.0 in
    let begin = c.range-from.ensures.0 in
    let end = c.range-from.ensures.1 ∙ ap (λ (n : ℕ). min ((c.args.b + 1) * jobs.blocks.block) n) jobs.whole in
    let none : 2 ^ 63 ≡ 2 ^ 63 + (from - from) * 2 ^ 36 = omega arith in
    let len = c.in_ok-departs.ensures.len in
    let room = c.in_ok-departs.ensures.capacity in
    record {
      so_far = λ k. c.in_ok-departs.ensures.items k ++ lindley (value_of c.args.carry) (slice_range jobs.step.arrive.now (begin k) (end k)) (slice_range jobs.step.demands.now (begin k) (end k));
      len = omega arith;
      room = omega arith;
      early = subst (λ (n : ℕ). IsWithin n c.args.carry) none c.requires.early;
    }
