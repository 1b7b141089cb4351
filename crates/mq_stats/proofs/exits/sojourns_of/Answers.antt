use Rattle.std.proofs.Common.{◌-◌, ap, ◌∙◌, sym, arith}
use Rattle.std.specs.Prelude.{slice_index_or}
use Rattle.std.proofs.lemmas.Option.{get_or_from_slice_get, slice_get-get_or}
use Rattle.mq_stats.proofs.Steps.{adds, leaves-at}
use Rattle.mq_stats.proofs.exits.sojourns_of.Goals as goal

pub loop-at-preserved : goal.loop-at-preserved
loop-at-preserved c =
    let jobs = c.args.job.now in
    let times = c.args.time.now in
    let job = slice_get-get_or jobs c.loop-at.at 0 c.loop-at-test.true in
    let time = slice_get-get_or times c.loop-at.at 0 (omega arith) in
    let entered = get_or_from_slice_get c.args.rows.now.time _ c.get-entered.result.now 0 c.get-entered.ensures in
    record {
      so_far =
          adds c.loop-at.sojourn _ _ _ _ _
          (c.saturating_sub.ensures ∙ sym (ap (λ n. slice_index_or times c.loop-at.at 0 - n) entered))
          (leaves-at c.args.rows.now jobs times c.loop-at.at _ _ job time) c.loop-at.invariant.so_far;
      small = omega arith;
    }
