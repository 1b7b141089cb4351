use Rattle.std.proofs.Common.{◌-◌, ◌∙◌, List, [], ap, sym, arith}
use Rattle.mq_maxplus.specs.declared.mp.Mp.{Mp}
use Rattle.mq_tandem.specs.Rows.{ran}
use Rattle.mq_tandem.proofs.Mapping.{item-done}
use Rattle.mq_tandem.proofs.Running.{above, above-fits, below, column-at, fits-at}
use Rattle.mq_tandem.proofs.step.TandemStep.column_behind.Goals as goal

pub raise-requires : goal.raise-requires
raise-requires c =
    let step = c.args.self.now in
    let places = step.places.now in
    let arrive = step.arrive.now in
    let demands = step.demands.now in
    let count = c.args.to - c.args.from in
    let none : List Mp = [] in
    let before = c.loop-earlier-test.true in
    let index = c.requires.index in
    let old = c.requires.old in
    let low = column-at c.args.old.now c.loop-earlier.earlier c.column.result.now c.column.ensures.item in
    let now = column-at c.args.now.now c.loop-earlier.earlier c.column-in-Some.result.now c.column-in-Some.ensures.item
    ∙ (item-done none (ran places arrive demands c.args.from count) c.args.old.now c.args.now.now c.args.index c.loop-earlier.earlier before (omega arith) c.requires.done ∙ ap (ran places arrive demands c.args.from count) (sym low)) in
    let some = c.requires.some in
    above-fits places arrive demands c.args.from count c.in-Some.by c.column.result.now c.column-in-loop-earlier.result.now c.column-in-Some.result.now (c.column.ensures.size ∙ (old ∙ step.all_rows)) c.in-Some.ensures now (omega arith)
    (fits-at places arrive demands c.args.from count c.args.old.now c.args.index c.column-in-loop-earlier.result.now c.column-in-loop-earlier.ensures.item c.requires.fits)

pub returns-in-Some-clause-acted : goal.returns-in-Some-clause-acted
returns-in-Some-clause-acted c =
    let step = c.args.self.now in
    let places = step.places.now in
    let arrive = step.arrive.now in
    let demands = step.demands.now in
    let count = c.args.to - c.args.from in
    let none : List Mp = [] in
    let before = c.loop-earlier-test.true in
    let index = c.requires.index in
    let old = c.requires.old in
    let low = column-at c.args.old.now c.loop-earlier.earlier c.column.result.now c.column.ensures.item in
    let high = column-at c.args.old.now c.args.index c.column-in-loop-earlier.result.now c.column-in-loop-earlier.ensures.item in
    let now = column-at c.args.now.now c.loop-earlier.earlier c.column-in-Some.result.now c.column-in-Some.ensures.item
    ∙ (item-done none (ran places arrive demands c.args.from count) c.args.old.now c.args.now.now c.args.index c.loop-earlier.earlier before (omega arith) c.requires.done ∙ ap (ran places arrive demands c.args.from count) (sym low)) in
    c.raise.ensures.raised
    ∙ (above places arrive demands c.args.from count c.in-Some.by c.column.result.now c.column-in-loop-earlier.result.now c.column-in-Some.result.now (c.column.ensures.size ∙ (old ∙ step.all_rows)) c.in-Some.ensures now
    ∙ ap (ran places arrive demands c.args.from count) high)

pub returns-in-Some-rise-clause-acted : goal.returns-in-Some-rise-clause-acted
returns-in-Some-rise-clause-acted c =
    let step = c.args.self.now in
    let places = step.places.now in
    let arrive = step.arrive.now in
    let demands = step.demands.now in
    let count = c.args.to - c.args.from in
    let none : List Mp = [] in
    let before = c.loop-earlier-test.true in
    let index = c.requires.index in
    let old = c.requires.old in
    let low = column-at c.args.old.now c.args.index c.column-in-loop-earlier-2.result.now c.column-in-loop-earlier-2.ensures.item in
    let high = column-at c.args.old.now c.loop-earlier.earlier c.column-in-loop-earlier-3.result.now c.column-in-loop-earlier-3.ensures.item in
    let now = column-at c.args.now.now c.loop-earlier.earlier c.column-in-Some-rise.result.now c.column-in-Some-rise.ensures.item
    ∙ (item-done none (ran places arrive demands c.args.from count) c.args.old.now c.args.now.now c.args.index c.loop-earlier.earlier before (omega arith) c.requires.done ∙ ap (ran places arrive demands c.args.from count) (sym high)) in
    c.lower.ensures.lowered
    ∙ (below places arrive demands c.args.from count c.in-Some-rise.by c.column-in-loop-earlier-2.result.now c.column-in-loop-earlier-3.result.now c.column-in-Some-rise.result.now (c.column-in-loop-earlier-2.ensures.size ∙ (old ∙ step.all_rows)) c.in-Some-rise.ensures now
    ∙ ap (ran places arrive demands c.args.from count) low)

pub run-requires-clause-fits : goal.run-requires-clause-fits
run-requires-clause-fits c =
    let step = c.args.self.now in
    fits-at step.places.now step.arrive.now step.demands.now c.args.from (c.args.to - c.args.from) c.args.old.now c.args.index c.column-2.result.now c.column-2.ensures.item c.requires.fits

pub returns-clause-acted : goal.returns-clause-acted
returns-clause-acted c =
    let step = c.args.self.now in
    c.run.ensures.acted ∙ ap (ran step.places.now step.arrive.now step.demands.now c.args.from (c.args.to - c.args.from)) (column-at c.args.old.now c.args.index c.column-2.result.now c.column-2.ensures.item)
