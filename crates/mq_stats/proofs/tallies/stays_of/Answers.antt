use Rattle.std.proofs.Common.{◌+◌, ap, ◌∙◌, arith, sym}
use Rattle.std.specs.Prelude.{fold}
use Rattle.std.proofs.lemmas.Option.{slice_get-get_or}
use Rattle.mq_core.specs.Results.{is_held, is_lost}
use Rattle.mq_stats.proofs.Steps.{adds, counts, sojourns-at, sojourns-end}
use Rattle.mq_stats.proofs.tallies.stays_of.Goals as goal

pub loop-at-preserved : goal.loop-at-preserved
loop-at-preserved c =
    let arrives = c.args.arrive.now in
    let fates = c.args.fate.now in
    let at = c.loop-at.at in
    let fate = c.at-ending.ensures in
    let sojourns = sojourns-at 0 arrives fates at _ _ (slice_get-get_or arrives at 0 c.loop-at-test.true) fate in
    let stayed = c.sojourn_of-stayed.ensures in
    record {
      lost = counts is_lost c.loop-at.lost _ _ fates at _ c.one_if_lost-lost.ensures.value fate c.loop-at.invariant.lost;
      held = counts is_held c.loop-at.held _ _ fates at _ c.one_if_held-held.ensures.value fate c.loop-at.invariant.held;
      stay = adds c.loop-at.stay _ _ _ _ _ stayed sojourns c.loop-at.invariant.stay;
      few = omega arith;
      few_held = omega arith;
      small = omega arith;
    }

pub returns-clause-stay : goal.returns-clause-stay
returns-clause-stay c = sym (ap (fold (λ a y. a + y) c.loop-at.stay) (sojourns-end 0 c.args.arrive.now c.args.fate.now c.loop-at.at c.loop-at-test.false)) ∙ c.loop-at.invariant.stay
