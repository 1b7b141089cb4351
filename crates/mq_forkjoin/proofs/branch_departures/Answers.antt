use Rattle.std.proofs.Common.{◌≤◌, length, refl, sym, ap, ◌∙◌, subst, arith}
use Rattle.std.proofs.lemmas.Option.{slice_get_read}
use Rattle.mq_core.specs.Recurrences.{lindley}
use Rattle.mq_core.specs.Sequences.{IsSoundLoad}
use Rattle.mq_forkjoin.proofs.Recurrence.{passing-begins, passing-next, passing-ends, load-at, not-late}
use Rattle.mq_forkjoin.proofs.branch_departures.Goals as goal

pub loop-column-init : goal.loop-column-init
loop-column-init c = passing-begins _ _ _ c.in_ok-departs.ensures c.requires.early

pub departures_behind-requires : goal.departures_behind-requires
departures_behind-requires c =
    let load = subst (IsSoundLoad c.args.arrive.now) (sym c.list.ensures) (load-at _ _ _ _ c.requires.load c.loop-column-test.true c.column-item.is) in
    let many = c.loop-column.invariant.many in
    let few = load.few in
    record {
      few = omega arith;
      each = load.each ∙ sym many;
      early = not-late _ _ _ _ c.requires.few c.loop-column-test.true c.loop-column.invariant;
      small = load.small;
    }

pub loop-column-preserved : goal.loop-column-preserved
loop-column-preserved c =
    let at = slice_get_read c.args.demands.now (length c.args.demands.now) c.loop-column.column-index _ refl c.loop-column-test.true c.column-item.is in
    let load = load-at _ _ _ _ c.requires.load c.loop-column-test.true c.column-item.is in
    passing-next _ _ _ _ _ _ at load (c.in_ok-departs-2.ensures ∙ ap (lindley 0 c.loop-column.departs) c.list.ensures) c.loop-column.invariant

pub returns : goal.returns
returns c =
    let ended : length c.args.demands.now ≤ c.loop-column.column-index = omega arith in
    passing-ends _ _ _ _ ended c.loop-column.invariant
