use Rattle.std.proofs.Common.{◌-◌, ◌<◌, ◌∙◌, List, [], length, set, ap, arith}
use Rattle.mq_maxplus.specs.declared.mp.Mp.{Mp}
use Rattle.mq_tandem.specs.Rows.{ran}
use Rattle.mq_tandem.proofs.Mapping.{mapping-next}
use Rattle.mq_tandem.proofs.step.TandemStep.run_each.Goals as goal

pub column_at-column-requires-clause-now : goal.column_at-column-requires-clause-now
column_at-column-requires-clause-now c = c.loop-index.invariant.long ∙ c.requires.size

pub column_at-column-requires-clause-done : goal.column_at-column-requires-clause-done
column_at-column-requires-clause-done c = c.loop-index.invariant.done

pub loop-index-preserved : goal.loop-index-preserved
loop-index-preserved c =
    let step = c.args.self.now in
    let none : List Mp = [] in
    let many = c.loop-index.invariant.long in
    let size = c.requires.size in
    let inside : c.loop-index.index < length c.loop-index.all = omega arith in
    mapping-next none (ran step.places.now step.arrive.now step.demands.now c.args.from (c.args.to - c.args.from)) c.args.all.now c.loop-index.all c.set_column.new.self c.loop-index.index inside
    (c.set_column.ensures ∙ ap (set c.loop-index.all c.loop-index.index) c.column_at-column.ensures.acted) c.loop-index.invariant
