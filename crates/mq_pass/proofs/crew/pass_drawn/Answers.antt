use Rattle.std.proofs.Common.{◌≡◌, ◌≤◌, ◌+◌, [], ◌∷◌, ◌++◌, length, length-append, ap, sym, ◌∙◌, arith, ℕ, All, Contains, refl, ◌<◌, is_ok, not, true, subst, Result, IfOk}
use Rattle.std.proofs.lemmas.List.Elements.{Contains-append_right}
use Rattle.mq_chain.specs.Seats.{Seated}
use Rattle.mq_base.specs.declared.list.OutOfMemory.{OutOfMemory}
use Rattle.mq_pass.specs.Passing.{IsPassed, look_before}
use Rattle.mq_pass.specs.declared.block.Passed.{Passed}
use Rattle.mq_pass.proofs.Passes.{own-drawn, fresh-block, passes-more, passes-ended}
use Rattle.mq_pass.proofs.crew.pass_drawn.Goals as goal

pub returns-then-number-jobs-clause-passed : goal.returns-then-number-jobs-clause-passed
returns-then-number-jobs-clause-passed g c = passes-ended _ _ _ _ _ _ _ _ c.draw-number.ensures.drawn (omega arith) c.draws.invariant.own c.draws.invariant.works

pub pass_block-requires-clause-fresh : goal.pass_block-requires-clause-fresh
pass_block-requires-clause-fresh g c = fresh-block _ _ _ _ _ _ c.draw-number.ensures.drawn c.draws.invariant.own c.draw-number.ensures.fresh

pub pass_block-requires-clause-mine : goal.pass_block-requires-clause-mine
pass_block-requires-clause-mine g c = own-drawn _ _ _ _ _ _ c.draw-number.ensures.drawn c.draws.invariant.own

pub draws-smaller : goal.draws-smaller
draws-smaller g c =
    let long : length c.draws.seat.draws ≤ c.draw-number.result = c.draws.invariant.works.long c.draw-number.result c.draw-number.ensures.fresh in
    let draws = c.pass_block.ensures.passed.1.draws ∙ ap (λ (z : Seated). z.draws) c.draw-number.ensures.drawn in
    let more : length c.pass_block.new.seat.draws ≡ length c.draws.seat.draws + 1 = ap length draws ∙ length-append c.draws.seat.draws (c.draw-number.result ∷ []) in
    let less = c.if-number-jobs.false in
    omega arith

pub draws-preserved : goal.draws-preserved
draws-preserved g c =
    let jobs = c.args.jobs.now in
    let i = c.draws.invariant in
    let grown = c.pass_block.ensures.passed.1 in
    let drawn = c.draw-number.ensures.drawn in
    let passed = subst (λ (r : Result Passed OutOfMemory). IfOk r (λ p. IsPassed jobs.step.arrive.now jobs.step.demands.now jobs.blocks.block c.pass_block.new.seat.puts (look_before c.draw-number.result c.pass_block.ensures.passed.0) c.draw-number.result p)) c.in-Ok.is c.pass_block.ensures.passed.2 in
    let pushed : c.push.new.self.items ≡ c.draws.made.items ++ (c.draw-number.result, c.in-Ok.passed) ∷ [] = let ok : is_ok c.push.result ≡ true = c.is_err.ensures.negation ∙ ap not c.if-is_err.false in rw ok at c.push.ensures.items in
    record {
      table = grown.table ∙ (ap (λ (z : Seated). z.table) drawn ∙ i.table);
      right = grown.right ∙ (ap (λ (z : Seated). z.right) drawn ∙ i.right);
      own = c.pass_block.ensures.mine;
      works = passes-more _ _ _ _ _ c.pass_block.ensures.passed.0 c.draws.seat c.draw-number.new.seat c.pass_block.new.seat c.draws.made.items c.push.new.self.items c.draw-number.result c.in-Ok.passed drawn c.draw-number.ensures.fresh (omega arith) grown passed pushed i.works;
    }

pub draw-number-requires-clause-early : goal.draw-number-requires-clause-early
draw-number-requires-clause-early g c = subst (λ (n : ℕ). All (λ d. d < n) c.draws.seat.draws) (sym c.requires.all) c.draws.invariant.works.early

pub pass_block-requires-clause-drew : goal.pass_block-requires-clause-drew
pass_block-requires-clause-drew g c =
    subst (λ (z : Seated). Contains z.draws c.draw-number.result) (sym c.draw-number.ensures.drawn) (Contains-append_right c.draws.seat.draws (c.draw-number.result ∷ []) c.draw-number.result (0, omega arith, refl))

pub returns-in-Err-clause-seat : goal.returns-in-Err-clause-seat
returns-in-Err-clause-seat g c =
    let grown = c.pass_block.ensures.passed.1 in
    let drawn = c.draw-number.ensures.drawn in
    let i = c.draws.invariant in
    (grown.table ∙ (ap (λ (z : Seated). z.table) drawn ∙ i.table), grown.right ∙ (ap (λ (z : Seated). z.right) drawn ∙ i.right))

pub returns-then-is_err-clause-seat : goal.returns-then-is_err-clause-seat
returns-then-is_err-clause-seat g c =
    let grown = c.pass_block.ensures.passed.1 in
    let drawn = c.draw-number.ensures.drawn in
    let i = c.draws.invariant in
    (grown.table ∙ (ap (λ (z : Seated). z.table) drawn ∙ i.table), grown.right ∙ (ap (λ (z : Seated). z.right) drawn ∙ i.right))
