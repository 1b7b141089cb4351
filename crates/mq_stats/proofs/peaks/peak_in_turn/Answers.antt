use Rattle.std.proofs.Common.{◌≡◌, ◌∙◌, if◌then◌else◌, ◌-◌, ◌<◌, ap, arith, drop, fold, length, map, max, sym, take}
use Rattle.std.proofs.lemmas.Option.{slice_get-get_or}
use Rattle.mq_base.proofs.lemmas.Lists.{get-some}
use Rattle.mq_base.specs.Lists.{between}
use Rattle.mq_core.specs.OnceOut.{founds_of}
use Rattle.mq_core.specs.Results.{numbers_of}
use Rattle.mq_core.specs.declared.model.Fate.TheVariants.{Departs}
use Rattle.mq_stats.proofs.Greatest.{peak-next}
use Rattle.mq_stats.proofs.peaks.peak_in_turn.Goals as goal

pub loop-at-preserved : goal.loop-at-preserved
loop-at-preserved c =
    let at = c.loop-at.at in
    let inside : at < length c.args.departs.now = omega (arith, c.loop-at-test.true, c.requires.within, c.requires.even) in
    let came : at < length c.args.arrive.now = omega (arith, c.loop-at-test.true, c.requires.within) in
    let departure = get-some c.args.departs.now at inside in
    record {
      few = omega (arith, c.number_with-number.ensures.within, c.loop-at.invariant.few);
      so_far =
          peak-next c.args.arrive.now c.args.departs.now c.args.to at _ departure.0 c.loop-at.number c.number_with-number.result _ c.requires.departs (slice_get-get_or c.args.arrive.now at 0 came) departure.1 c.loop-at-test.true (omega arith)
          c.number_with-number.ensures.greater c.loop-at.invariant.so_far;
    }

pub returns : goal.returns
returns c =
    let fates = map (λ d. Departs d) c.args.departs.now in
    let founds = founds_of c.args.arrive.now fates in
    let at = c.loop-at.at in
    let none : c.args.to - at ≡ 0 = omega (arith, c.loop-at-test.false) in
    sym (ap (λ n. fold max c.loop-at.number (numbers_of (take n (drop at founds)) (take n (drop at fates)))) none)
    ∙ (c.loop-at.invariant.so_far
    ∙ ap (λ b. if b then fold max 0 (numbers_of (between c.args.from c.args.to founds) (between c.args.from c.args.to fates)) else 0) (sym c.if-not-holds.false ∙ c.holds.ensures))
