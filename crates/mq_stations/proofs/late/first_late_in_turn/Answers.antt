use Rattle.std.proofs.Common.{◌≡◌, ◌≤◌, Some, ap, sym, ◌∙◌, subst, arith}
use Rattle.std.specs.Prelude.{slice_get}
use Rattle.std.specs.List.{AllByRecursion}
use Rattle.mq_base.proofs.lemmas.Lists.{some_inj, take-all}
use Rattle.mq_core.specs.Results.{first_of}
use Rattle.mq_stations.proofs.FirstLate.{early-before, first-is, none-after}
use Rattle.mq_stations.proofs.late.first_late_in_turn.Goals as goal

pub loop-first-preserved-then-time-bound : goal.loop-first-preserved-then-time-bound
loop-first-preserved-then-time-bound c =
    let was = c.loop-first.invariant in
    record {
      order = omega arith;
      within = omega arith;
      early = early-before c.args.bound c.args.departs.now _ c.get-time.result.now c.requires.rising c.get-time.ensures c.if-time-bound.true;
      late = was.late;
    }

pub loop-first-preserved : goal.loop-first-preserved
loop-first-preserved c =
    let was = c.loop-first.invariant in
    record {
      order = omega arith;
      within = omega arith;
      early = was.early;
      late = λ time e. let over = c.if-time-bound.false in let same = some_inj _ _ (sym e ∙ c.get-time.ensures) in omega arith;
    }

pub returns-then-first-count : goal.returns-then-first-count
returns-then-first-count c =
    let was = c.loop-first.invariant in
    let all = take-all c.args.departs.now c.loop-first.first (omega arith) in
    ap first_of (none-after c.args.bound c.args.node 0 c.args.departs.now (subst (AllByRecursion (λ time. time ≤ c.args.bound)) all was.early))

pub returns : goal.returns
returns c =
    let was = c.loop-first.invariant in
    first-is c.args.bound c.args.node c.loop-first.first c.get.result.now c.args.departs.now was.early c.get.ensures (was.late c.get.result.now (let same : c.loop-first.last ≡ c.loop-first.first = omega arith in subst (λ n. slice_get c.args.departs.now n ≡ Some c.get.result.now) (sym same) c.get.ensures))
