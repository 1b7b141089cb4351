use Rattle.std.proofs.Common.{◌+◌, ◌∙◌, ap, arith, get_or}
use Rattle.std.proofs.lemmas.Option.{slice_get-get_or}
use Rattle.mq_engine.proofs.Advancing.{steps-at, steps-take}
use Rattle.mq_engine.specs.Places.{place_steps}
use Rattle.mq_engine.proofs.places.is_working.Goals as goal

pub returns-then-has_work-clause-some : goal.returns-then-has_work-clause-some
returns-then-has_work-clause-some c = λ yes.
    let there = slice_get-get_or c.args.places.now c.loop-at.at c.index-places-at.result c.loop-at-test.true in
    let at = steps-at c.args.places.now c.loop-at.at (get_or c.args.places.now c.loop-at.at c.index-places-at.result) there in
    let works = c.has_work.ensures.some c.if-has_work.true in
    omega arith

pub loop-at-preserved : goal.loop-at-preserved
loop-at-preserved c =
    let there = slice_get-get_or c.args.places.now c.loop-at.at c.index-places-at.result c.loop-at-test.true in
    let one = get_or c.args.places.now c.loop-at.at c.index-places-at.result in
    steps-take c.args.places.now c.loop-at.at one there ∙ (ap (λ n. n + place_steps one) c.loop-at.invariant ∙ ap (λ n. 0 + n) (c.has_work.ensures.none c.if-has_work.false))
